use Rattle.owner_desk.proofs.Steps.{sole_first}
use Rattle.owner_desk.proofs.guarded.Guarded.new.Goals as goal

pub invariant_of-result : goal.invariant_of-result
invariant_of-result g c = rw c.of-opened.ensures (sole_first c.args.book c.requires.book c.requires.fresh)
