-- An owner, member by member.
use Rattle.std.proofs.Common.{◌≡◌, rules, refl, sym, Err}
use Rattle.serde_json.specs.View.{view}
use Rattle.owner_catalog.specs.Catalog.{owner_in}
use Rattle.owner_catalog.proofs.Steps.{or_fault}
use Rattle.owner_catalog.proofs.reading.OwnerItemInCatalog.read.Goals as goal

pub returns-in_err-budget-clause-fault : goal.returns-in_err-budget-clause-fault
unfolding owner_in
returns-in_err-budget-clause-fault c =
    let fault : owner_in c.args.within.now.analysts.now c.args.number (view c.args.value.now) ≡ Err c.in_err-budget.field-0.0 =
    rw c.in_ok-object.ensures.object (rw c.in_ok-name.ensures.text (rw c.in_err-budget.ensures.fault refl)) in
    search rules

pub returns-in_err-capacity-clause-fault : goal.returns-in_err-capacity-clause-fault
unfolding owner_in
returns-in_err-capacity-clause-fault c =
    let fault : owner_in c.args.within.now.analysts.now c.args.number (view c.args.value.now) ≡ Err c.in_err-capacity.field-0.0 =
    rw c.in_ok-object.ensures.object (rw c.in_ok-name.ensures.text (rw c.in_ok-budget.ensures.number (rw c.in_err-capacity.ensures.fault refl))) in
    search rules

pub returns-in_err-tables-clause-fault : goal.returns-in_err-tables-clause-fault
unfolding owner_in
returns-in_err-tables-clause-fault c =
    let fault = or_fault (owner_in c.args.within.now.analysts.now c.args.number (view c.args.value.now)) c.in_err-tables.ensures.fault
    (λ is. rw c.in_ok-object.ensures.object (rw c.in_ok-name.ensures.text (rw c.in_ok-budget.ensures.number (rw c.in_ok-capacity.ensures.number
    (rw is refl))))) in
    search rules

pub returns-in_err-partitions-clause-fault : goal.returns-in_err-partitions-clause-fault
unfolding owner_in
returns-in_err-partitions-clause-fault c =
    let fault = or_fault (owner_in c.args.within.now.analysts.now c.args.number (view c.args.value.now)) (rw c.deref.ensures.value at c.in_err-partitions.ensures.fault)
    (λ is. rw c.in_ok-object.ensures.object (rw c.in_ok-name.ensures.text (rw c.in_ok-budget.ensures.number (rw c.in_ok-capacity.ensures.number
    (rw c.in_ok-tables.ensures.list (rw is refl)))))) in
    search rules

pub returns-in_err-limits-clause-fault : goal.returns-in_err-limits-clause-fault
unfolding owner_in
returns-in_err-limits-clause-fault c =
    let fault = or_fault (owner_in c.args.within.now.analysts.now c.args.number (view c.args.value.now)) c.in_err-limits.ensures.fault
    (λ is. rw c.in_ok-object.ensures.object (rw c.in_ok-name.ensures.text (rw c.in_ok-budget.ensures.number (rw c.in_ok-capacity.ensures.number
    (rw c.in_ok-tables.ensures.list (rw (rw c.deref.ensures.value at c.in_ok-partitions.ensures.list) (rw is refl))))))) in
    search rules

pub returns-clause-item : goal.returns-clause-item
unfolding owner_in
returns-clause-item c =
    let plain = c.in_ok-object.ensures.plain (
      c.in_ok-name.ensures.plain,
      (
        c.in_ok-budget.ensures.plain,
        (
          c.in_ok-capacity.ensures.plain,
          (c.in_ok-tables.ensures.plain, (c.in_ok-partitions.ensures.plain, (c.in_ok-limits.ensures.plain, tt))),
        ),
      ),
    ) in
    rw c.in_ok-object.ensures.object (rw c.in_ok-name.ensures.text (rw c.in_ok-budget.ensures.number (rw c.in_ok-capacity.ensures.number
    (rw c.in_ok-tables.ensures.list (rw (rw c.deref.ensures.value at c.in_ok-partitions.ensures.list) (rw c.in_ok-limits.ensures.list (rw (sym (c.in_ok-text.ensures.text plain)) refl)))))))
