use Rattle.std.proofs.Common.{◌≡◌, map, take}
use Rattle.metric_values.specs.Cells.{cell_at, chosen_of}
use Rattle.metric_values.specs.Columns.{cells_of}
use Rattle.table_store.specs.Growth.{kind_of}
use Rattle.table_store.proofs.gathering.gathered_column.Given as goal

abbrev pub invariant-loop-i : goal.invariant-loop-i
invariant-loop-i l = record {
  same_kind : kind_of l.column ≡ l.fn.kind;
  so_far : cells_of l.column ≡ map (cell_at l.k) (chosen_of l.table (take l.i l.rows));
}
