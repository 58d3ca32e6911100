-- What the next record says of the rows from this one on.
use Rattle.std.proofs.Common.{◌≡◌, ◌⊎◌, Err, map, inl, inr, rules}
use Rattle.csv.specs.Records.{fields_of}
use Rattle.table_store.specs.Growth.{kind_of}
use Rattle.table_store.specs.Reader.{records_left}
use Rattle.table_store.specs.Table.{rows_from}
use Rattle.table_store.specs.declared.TableFault.TheVariants.{NoMemory}
use Rattle.table_store.proofs.RowLemmas.{at_record, bad_row, either, late_row, uneven_row}
use Rattle.table_store.proofs.rows.Rows.read_row.Goals as goal

pub returns-in-Err-Uneven-clause-fault : goal.returns-in-Err-Uneven-clause-fault
returns-in-Err-Uneven-clause-fault c =
    elim c.in-Err-Uneven.ensures.fault [
      | inl same ↦ cc
      | inr u ↦ inr (uneven_row c.args.row c.args.self.now.reader c.args.self.now.reader c.args.columns.now.items c.requires.under u)
    ]

pub returns-in_err-push_row-clause-fault : goal.returns-in_err-push_row-clause-fault
returns-in_err-push_row-clause-fault c =
    let fields = fields_of c.read_record.new.self.fields in
    let t = at_record c.in-Ok-true.field-0 c.args.self.now.reader c.read_record.new.self.reader fields c.in-Ok-true.ensures.record c.in-Ok-true.field-0-test in
    let known : (c.in_err-push_row.field-0.0 ≡ NoMemory) ⊎ (rows_from (map kind_of c.args.columns.now.items) c.args.row (records_left c.args.self.now.reader)
    ≡ Err c.in_err-push_row.field-0.0) =
    either _ _ _ (bad_row c.args.row c.args.self.now.reader c.read_record.new.self.reader c.args.columns.now.items c.requires.under fields t
    c.in_err-push_row.field-0.0)
    c.in_err-push_row.ensures.fault in
    search (rules, known)

pub returns-then-row-ge-MAX_ROWS-clause-fault : goal.returns-then-row-ge-MAX_ROWS-clause-fault
returns-then-row-ge-MAX_ROWS-clause-fault c =
    let fields = fields_of c.read_record.new.self.fields in
    let t = at_record c.in-Ok-true.field-0 c.args.self.now.reader c.read_record.new.self.reader fields c.in-Ok-true.ensures.record c.in-Ok-true.field-0-test in
    inr (late_row c.args.row c.args.self.now.reader c.read_record.new.self.reader c.args.columns.now.items c.requires.under fields t
    c.push_row.new.columns.items
    c.in_ok-push_row.ensures.row c.if-row-ge-MAX_ROWS.true)
