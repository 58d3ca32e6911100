use Rattle.std.proofs.Common.{◌≡◌, map, take}
use Rattle.metric_values.specs.Values.{NumF}
use Rattle.value_distance.proofs.rows.numbers.Given as goal

abbrev pub invariant-loop-i : goal.invariant-loop-i
invariant-loop-i l = map (λ number. NumF number.value) l.numbers.items ≡ take l.i l.table
