use Rattle.std.proofs.Common.{◌≡◌, map, take}
use Rattle.metric_values.specs.Cells.{AllLong}
use Rattle.metric_values.specs.Columns.{cells_of}
use Rattle.table_store.specs.Growth.{kind_of}
use Rattle.table_store.specs.Schema.{column_kind}
use Rattle.table_store.proofs.columns.empty_columns.Given as goal

abbrev pub invariant-loop-i : goal.invariant-loop-i
invariant-loop-i l = record {
  kinds : map kind_of l.columns.items ≡ map column_kind (take l.i l.schema);
  long : AllLong 0 (map cells_of l.columns.items);
}
