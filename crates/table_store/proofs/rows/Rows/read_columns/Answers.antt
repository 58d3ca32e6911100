-- One more row of the columns, and the rows behind it.
use Rattle.std.proofs.Common.{◌∙◌, ℕ, List, Ok, map, subst, sym, ap, arith}
use Rattle.metric_values.specs.Columns.{rows_of_columns}
use Rattle.metric_values.specs.Values.{Flat}
use Rattle.metric_values.specs.declared.column.Column.{Column as Cells}
use Rattle.table_store.specs.Reader.{IsUnderHeader, records_left}
use Rattle.table_store.specs.Schema.{column_kind}
use Rattle.table_store.specs.Table.{rows_from}
use Rattle.table_store.proofs.GrowthLemmas.{no_rows, same_width}
use Rattle.table_store.proofs.RowLemmas.{behind, behind-end, behind-nil, no_row, row_behind, row_read}
use Rattle.table_store.proofs.rows.Rows.read_columns.Goals as goal

pub loop-columns-init : goal.loop-columns-init
loop-columns-init c =
    let e = c.in_ok-columns.ensures in
    let rest = rows_from (map column_kind c.args.schema.now) 0 (records_left c.args.self.now.reader) in
    record {
      stands = c.requires.under;
      kinds = e.kinds;
      wide = same_width c.in_ok-columns.columns.items c.args.schema.now e.kinds;
      long = e.long;
      room = omega arith;
      so_far = sym (ap (λ (rows : List Flat). behind rows rest) (no_rows c.in_ok-columns.columns.items e.long) ∙ behind-nil rest);
    }

pub loop-columns-preserved : goal.loop-columns-preserved
loop-columns-preserved c =
    let inv = c.loop-columns.invariant in
    let old = c.loop-columns.columns.items in
    let new = c.read_row.new.columns.items in
    let r = row_read c.in_ok-read_row.field-0 c.loop-columns.row c.loop-columns.self.reader c.read_row.new.self.reader old new c.in_ok-read_row.ensures.row
    c.if-branch.true in
    let kinds = r.adds.kinds_are ∙ inv.kinds in
    record {
      stands = subst (λ (n : ℕ). IsUnderHeader n c.read_row.new.self.reader) inv.wide r.stands;
      kinds = kinds;
      wide = same_width new c.args.schema.now kinds;
      long = r.adds.long;
      room = omega (arith, r.room);
      so_far = row_behind (map column_kind c.args.schema.now) c.loop-columns.row c.loop-columns.self.reader c.read_row.new.self.reader old new _ inv.kinds r
          inv.so_far;
    }

pub returns-clause-rows : goal.returns-clause-rows
returns-clause-rows c =
    let inv = c.loop-columns.invariant in
    let old = c.loop-columns.columns.items in
    let new = c.read_row.new.columns.items in
    let none = no_row c.in_ok-read_row.field-0 c.loop-columns.row c.loop-columns.self.reader c.read_row.new.self.reader old new c.in_ok-read_row.ensures.row
    c.if-branch.false in
    inv.so_far ∙ behind-end (map column_kind c.args.schema.now) c.loop-columns.row (records_left c.loop-columns.self.reader) (rows_of_columns old) none.0
    ∙ ap (λ (columns : List Cells). Ok (rows_of_columns columns)) (sym none.1)
