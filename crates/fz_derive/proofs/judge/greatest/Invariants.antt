use Rattle.std.proofs.Common.{◌≡◌, drop}
use Rattle.fz_frac.specs.Sens.{distance_of}
use Rattle.fz_derive.specs.Judged.{greatest_said}
use Rattle.derivation_lines.specs.Said.{says_of}
use Rattle.fz_derive.proofs.judge.greatest.Given as goal

abbrev pub invariant-loop-i : goal.invariant-loop-i
invariant-loop-i l = distance_of l.greatest ≡ greatest_said (says_of (drop l.i l.says))
