use Rattle.std.proofs.Common.{◌≡◌, length}
use Rattle.derivation_lines.specs.Counted.{AreCounts}
use Rattle.derivation_lines.proofs.count.type_lengths.Given as goal

abbrev pub invariant-loop-i : goal.invariant-loop-i
invariant-loop-i l = record { size : length l.lengths.items ≡ l.i; counts : AreCounts l.types l.lengths.items }
