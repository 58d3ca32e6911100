use Rattle.std.proofs.Common.{◌≡◌, map, take}
use Rattle.metric_values.specs.Cells.{row_at}
use Rattle.value_distance.proofs.rows.rows.Given as goal

abbrev pub invariant-loop-number : goal.invariant-loop-number
invariant-loop-number l = map (λ row. row_at row.table.now row.number) l.rows.items ≡ take l.number l.table
