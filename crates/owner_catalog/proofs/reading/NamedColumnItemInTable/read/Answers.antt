-- A column, member by member.
use Rattle.std.proofs.Common.{◌≡◌, rules, refl, sym, Err}
use Rattle.serde_json.specs.View.{view}
use Rattle.owner_catalog.specs.Catalog.{column_in}
use Rattle.owner_catalog.proofs.reading.NamedColumnItemInTable.read.Goals as goal

pub returns-in_err-kind-clause-fault : goal.returns-in_err-kind-clause-fault
unfolding column_in
returns-in_err-kind-clause-fault c =
    let fault : column_in c.args.within.now.owner c.args.within.now.table c.args.number (view c.args.value.now) ≡ Err c.in_err-kind.field-0.0
    = rw c.in_ok-object.ensures.object (rw c.in_ok-name.ensures.text (rw c.in_err-kind.ensures.fault refl)) in
    search rules

pub returns-clause-item : goal.returns-clause-item
unfolding column_in
returns-clause-item c = rw c.in_ok-object.ensures.object (rw c.in_ok-name.ensures.text (rw c.in_ok-kind.ensures.kind (rw (sym c.new.ensures.name)
    (rw (sym c.new.ensures.kind) refl))))
