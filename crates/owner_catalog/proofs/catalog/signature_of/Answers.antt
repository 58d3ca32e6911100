-- The tables, one after another.
use Rattle.std.proofs.Common.{◌∙◌, ◌<◌, ◌++◌, ◌∷◌, [], length, arith, sym, ap, subst}
use Rattle.table_store.specs.Schema.{row_of_schema}
use Rattle.owner_catalog.specs.Entries.{table_name}
use Rattle.owner_catalog.specs.Lawful.{IsTableEntry}
use Rattle.owner_catalog.proofs.Signatures.{name_fits, fresh_at, signature_more}
use Rattle.owner_catalog.proofs.catalog.signature_of.Goals as goal

pub new-requires : goal.new-requires
new-requires c =
    let low : c.loop-table.table-index < length c.args.tables.now = omega arith in
    let lawful = subst IsTableEntry (sym c.table-item.is) (c.requires.tables c.loop-table.table-index c.table-item.result low) in
    rw c.as_bytes.ensures.value (rw (ap table_name c.table.view_is) (name_fits c.table-item.result lawful))

pub push-requires-clause-fresh : goal.push-requires-clause-fresh
push-requires-clause-fresh c =
    rw c.new.ensures (rw c.as_bytes.ensures.value (rw (ap table_name c.table.view_is) (rw c.loop-table.invariant
    (fresh_at c.args.tables.now c.loop-table.table-index c.table-item.result c.requires.distinct (omega arith) c.table-item.is))))

pub loop-table-preserved : goal.loop-table-preserved
loop-table-preserved c =
    let name = c.new.ensures ∙ c.as_bytes.ensures.value ∙ ap table_name c.table.view_is in
    let row = c.in_ok-row.ensures.row ∙ ap (λ t. row_of_schema t.columns) c.table.view_is in
    c.in_ok-push.ensures.ok ∙ (λ j. c.loop-table.invariant j ++ record { name = name j; row = row j } ∷ [])
    ∙ signature_more c.args.tables.now c.loop-table.table-index c.table-item.result (omega arith) c.table-item.is
