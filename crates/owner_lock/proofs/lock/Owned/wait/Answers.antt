use Rattle.std.proofs.Common.{rules}
use Rattle.owner_lock.proofs.Keeps.{warns}
use Rattle.owner_lock.proofs.lock.Owned.wait.Goals as goal

pub compare_exchange-found-requires : goal.compare_exchange-found-requires
compare_exchange-found-requires g c = (search rules, search rules, warns g.T.StandsFor _ _ _ _ _ c.waiting_word-waiting.ensures)
