use Rattle.std.proofs.Common.{◌≡◌}
use Rattle.metric_values.specs.Cells.{from_column, row_at}
use Rattle.value_distance.specs.Order.{element_cmp}
use Rattle.value_distance.proofs.rows.compare_rows.Given as goal

abbrev pub invariant-loop-k : goal.invariant-loop-k
invariant-loop-k l = element_cmp (from_column l.k (row_at l.x l.i)) (from_column l.k (row_at l.y l.j)) ≡ element_cmp (row_at l.x l.i) (row_at l.y l.j)
