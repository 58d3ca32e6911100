use Rattle.std.proofs.Common.{◌≡◌, drop}
use Rattle.fz_derive.specs.Putting.{names_in, sorted_in}
use Rattle.fz_derive.proofs.sorted.sorted.Given as goal

abbrev pub invariant-loop-i : goal.invariant-loop-i
invariant-loop-i l = names_in l.names.items ≡ sorted_in (drop l.i l.bounds)
