use Rattle.std.specs.Prelude.{Ok}
use Rattle.bag_ops.proofs.Lists.{Summed}
use Rattle.bag_ops.proofs.by_place.total_by.Given as goal

abbrev pub invariant-loop-i : goal.invariant-loop-i
invariant-loop-i g l = Summed (λ i z. g.E.Fn.post l.number (i, tt) (Ok z)) l.lo l.hi l.i l.total
