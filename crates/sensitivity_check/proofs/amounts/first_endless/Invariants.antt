use Rattle.linear_types.specs.Laws.{FiniteBelow}
use Rattle.linear_types.specs.Places.{distances}
use Rattle.sensitivity_check.proofs.amounts.first_endless.Given as goal

abbrev pub invariant-loop-i : goal.invariant-loop-i
invariant-loop-i l = FiniteBelow (distances l.amounts) l.i
