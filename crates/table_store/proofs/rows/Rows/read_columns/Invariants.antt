use Rattle.std.proofs.Common.{◌≡◌, ◌≤◌, ◌-◌, length, map}
use Rattle.metric_values.specs.Cells.{AllLong}
use Rattle.metric_values.specs.Columns.{cells_of, rows_of_columns}
use Rattle.table_store.specs.Growth.{kind_of}
use Rattle.table_store.specs.Reader.{IsUnderHeader, records_left}
use Rattle.table_store.specs.Schema.{column_kind}
use Rattle.table_store.specs.Table.{most_rows, rows_from}
use Rattle.table_store.proofs.RowLemmas.{behind}
use Rattle.table_store.proofs.rows.Rows.read_columns.Given as goal

abbrev pub invariant-loop-columns : goal.invariant-loop-columns
invariant-loop-columns l = record {
  stands : IsUnderHeader (length l.schema) l.self.reader;
  kinds : map kind_of l.columns.items ≡ map column_kind l.schema;
  wide : length l.columns.items ≡ length l.schema;
  long : AllLong l.row (map cells_of l.columns.items);
  room : l.row ≤ most_rows;
  so_far : rows_from (map column_kind l.schema) 0 (records_left l.fn.self.reader)
      ≡ behind (rows_of_columns l.columns.items) (rows_from (map column_kind l.schema) l.row (records_left l.self.reader));
}

abbrev pub decreases-loop-columns : goal.decreases-loop-columns
decreases-loop-columns l = most_rows - l.row
