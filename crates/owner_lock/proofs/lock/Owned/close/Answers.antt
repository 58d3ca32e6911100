use Rattle.owner_lock.proofs.Keeps.{closes}
use Rattle.owner_lock.proofs.lock.Owned.close.Goals as goal

pub returns : goal.returns
returns g c = closes g.T.StandsFor _ _ _ _ _ c.args.pass.rests.1 c.requires.whole c.close_with-closed.ensures.values.2 c.take-state.ensures.value
