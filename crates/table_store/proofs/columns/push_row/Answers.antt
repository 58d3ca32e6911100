-- A cell of the record into each column.
use Rattle.std.proofs.Common.{◌≡◌, ◌<◌, ◌⊎◌, ℕ, Err, length, map, subst, arith, rules}
use Rattle.csv.specs.Records.{fields_of}
use Rattle.table_store.specs.Growth.{kind_of}
use Rattle.table_store.specs.Table.{cells_from}
use Rattle.table_store.specs.declared.TableFault.TheVariants.{NoMemory}
use Rattle.table_store.proofs.GrowthLemmas.{HasTaken, adds_row, cell_refused, cell_taken, field_there, taken_length}
use Rattle.table_store.proofs.RowLemmas.{either}
use Rattle.table_store.proofs.columns.push_row.Goals as goal

pub loop-col-preserved : goal.loop-col-preserved
loop-col-preserved c =
    let fields = fields_of c.args.fields.now in
    let under : c.loop-col.col < length c.args.columns.now.items = grind arith in
    let there : c.loop-col.col < length fields = grind (arith, c.requires.even) in
    let field = field_there fields c.loop-col.col c.get.result _ c.unwrap_or-cell.result there c.get.ensures.value c.unwrap_or-cell.ensures in
    record {
      taken = cell_taken c.args.row c.loop-col.col fields c.args.columns.now.items c.loop-col.columns.items c.index_mut.result.now c.unwrap_or-cell.result.now
          c.loop-col.invariant.taken under there c.index_mut.ensures.value field c.push_cell.new.column c.in_ok-push_cell.ensures.cell;
    }

pub returns-in_err-push_cell-clause-fault : goal.returns-in_err-push_cell-clause-fault
returns-in_err-push_cell-clause-fault c =
    let fields = fields_of c.args.fields.now in
    let under : c.loop-col.col < length c.args.columns.now.items = grind arith in
    let there : c.loop-col.col < length fields = grind (arith, c.requires.even) in
    let field = field_there fields c.loop-col.col c.get.result _ c.unwrap_or-cell.result there c.get.ensures.value c.unwrap_or-cell.ensures in
    let known : (c.in_err-push_cell.field-0.0 ≡ NoMemory) ⊎ (cells_from c.args.row 0 (map kind_of c.args.columns.now.items) fields
    ≡ Err c.in_err-push_cell.field-0.0) =
    either _ _ _
    (cell_refused c.args.row c.loop-col.col fields c.args.columns.now.items c.loop-col.columns.items c.index_mut.result.now c.unwrap_or-cell.result.now
    c.loop-col.invariant.taken under there c.index_mut.ensures.value field c.in_err-push_cell.field-0.0)
    c.in_err-push_cell.ensures.fault in
    search (rules, known)

pub returns-clause-row : goal.returns-clause-row
returns-clause-row c =
    let inv = c.loop-col.invariant in
    let wide : length c.loop-col.columns.items ≡ length c.args.columns.now.items = taken_length _ _ _ _ inv.taken in
    let all : c.loop-col.col ≡ length c.args.columns.now.items = grind arith in
    adds_row c.args.row (fields_of c.args.fields.now) c.args.columns.now.items c.loop-col.columns.items
    (subst (λ (k : ℕ). HasTaken k (fields_of c.args.fields.now) c.args.columns.now.items c.loop-col.columns.items) all inv.taken)
    c.requires.even c.requires.some c.requires.long
