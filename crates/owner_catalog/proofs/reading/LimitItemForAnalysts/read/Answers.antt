-- A limit, member by member.
use Rattle.std.proofs.Common.{◌≡◌, rules, refl, Err}
use Rattle.serde_json.specs.View.{view}
use Rattle.owner_catalog.specs.Catalog.{limit_in}
use Rattle.owner_catalog.proofs.reading.LimitItemForAnalysts.read.Goals as goal

pub returns-in_err-budget-clause-fault : goal.returns-in_err-budget-clause-fault
unfolding limit_in
returns-in_err-budget-clause-fault c =
    let fault : limit_in c.args.within.now.owner c.args.within.now.analysts.now c.args.number (view c.args.value.now) ≡ Err c.in_err-budget.field-0.0 =
    rw c.in_ok-object.ensures.object (rw c.in_ok-analyst.ensures.analyst (rw c.in_err-budget.ensures.fault refl)) in
    search rules
