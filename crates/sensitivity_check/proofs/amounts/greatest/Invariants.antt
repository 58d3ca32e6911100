use Rattle.std.proofs.Common.{◌≡◌, drop}
use Rattle.fz_frac.specs.Sens.{distance_of}
use Rattle.linear_types.specs.Places.{distances}
use Rattle.linear_types.specs.Program.{greatest_of}
use Rattle.sensitivity_check.proofs.amounts.greatest.Given as goal

abbrev pub invariant-loop-i : goal.invariant-loop-i
invariant-loop-i l = distance_of l.greatest ≡ greatest_of (distances (drop l.i l.amounts))
