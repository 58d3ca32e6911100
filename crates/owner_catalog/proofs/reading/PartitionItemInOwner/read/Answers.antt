-- A partition, member by member.
use Rattle.std.proofs.Common.{◌≡◌, rules, refl, sym, Err}
use Rattle.serde_json.specs.View.{view}
use Rattle.owner_catalog.specs.Catalog.{partition_in}
use Rattle.owner_catalog.proofs.Steps.{or_fault}
use Rattle.owner_catalog.proofs.reading.PartitionItemInOwner.read.Goals as goal

pub returns-in_err-table-clause-fault : goal.returns-in_err-table-clause-fault
unfolding partition_in
returns-in_err-table-clause-fault c =
    let fault : partition_in c.args.within.now.owner c.args.within.now.tables.now c.args.number (view c.args.value.now) ≡ Err c.in_err-table.field-0.0 =
    rw c.in_ok-object.ensures.object (rw c.in_ok-name.ensures.text (rw c.in_err-table.ensures.fault refl)) in
    search rules

pub returns-in_err-column-clause-fault : goal.returns-in_err-column-clause-fault
unfolding partition_in
returns-in_err-column-clause-fault c =
    let fault : partition_in c.args.within.now.owner c.args.within.now.tables.now c.args.number (view c.args.value.now) ≡ Err c.in_err-column.field-0.0 =
    rw c.in_ok-object.ensures.object (rw c.in_ok-name.ensures.text (rw c.in_ok-table.ensures.table (rw (sym c.columns_of.ensures)
    (rw c.in_err-column.ensures.fault refl)))) in
    search rules

pub returns-in_err-keys-clause-fault : goal.returns-in_err-keys-clause-fault
unfolding partition_in
returns-in_err-keys-clause-fault c =
    let fault = or_fault (partition_in c.args.within.now.owner c.args.within.now.tables.now c.args.number (view c.args.value.now)) c.in_err-keys.ensures.fault
    (λ is. rw c.in_ok-object.ensures.object (rw c.in_ok-name.ensures.text (rw c.in_ok-table.ensures.table (rw (sym c.columns_of.ensures)
    (rw c.in_ok-column.ensures.column (rw is refl)))))) in
    search rules

pub returns-clause-item : goal.returns-clause-item
unfolding partition_in
returns-clause-item c =
    rw c.in_ok-object.ensures.object (rw c.in_ok-name.ensures.text (rw c.in_ok-table.ensures.table (rw (sym c.columns_of.ensures)
    (rw c.in_ok-column.ensures.column (rw c.in_ok-keys.ensures.list (refl))))))
