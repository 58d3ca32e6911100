use Rattle.row_kernels.proofs.Counted.{PartSum}
use Rattle.row_kernels.proofs.gather.sum_of.Given as goal

abbrev pub invariant-loop-j : goal.invariant-loop-j
invariant-loop-j l = PartSum l.lo l.hi l.zs l.there l.j l.sum
