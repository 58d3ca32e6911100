use Rattle.std.proofs.Common.{◌≡◌, map, take}
use Rattle.metric_values.specs.Rows.{place_in}
use Rattle.metric_values.proofs.table.places.Given as goal

abbrev pub invariant-loop-i : goal.invariant-loop-i
invariant-loop-i l = l.places.items ≡ map (place_in l.rows) (take l.i l.numbers)
