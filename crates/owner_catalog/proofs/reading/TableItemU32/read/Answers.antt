-- A table, member by member.
use Rattle.std.proofs.Common.{rules, refl, sym}
use Rattle.serde_json.specs.View.{view}
use Rattle.owner_catalog.specs.Catalog.{table_in}
use Rattle.owner_catalog.proofs.Steps.{or_fault}
use Rattle.owner_catalog.proofs.reading.TableItemU32.read.Goals as goal

pub returns-in_err-file-clause-fault : goal.returns-in_err-file-clause-fault
unfolding table_in
returns-in_err-file-clause-fault c =
    let fault = or_fault (table_in c.args.owner.now c.args.number (view c.args.value.now)) c.in_err-file.ensures.fault
    (λ is. rw c.in_ok-object.ensures.object (rw c.in_ok-name.ensures.text (rw is refl))) in
    search rules

pub returns-in_err-columns-clause-fault : goal.returns-in_err-columns-clause-fault
unfolding table_in
returns-in_err-columns-clause-fault c =
    let fault = or_fault (table_in c.args.owner.now c.args.number (view c.args.value.now)) c.in_err-columns.ensures.fault
    (λ is. rw c.in_ok-object.ensures.object (rw c.in_ok-name.ensures.text (rw c.in_ok-file.ensures.text (rw is refl)))) in
    search rules

pub returns-clause-item : goal.returns-clause-item
unfolding table_in
returns-clause-item c =
    rw c.in_ok-object.ensures.object (rw c.in_ok-name.ensures.text (rw c.in_ok-file.ensures.text (rw c.in_ok-columns.ensures.list
    (rw (sym c.new.ensures) refl))))
