use Rattle.catalog_loading.proofs.Houses.{owner_done, owner_stopped}
use Rattle.query_server.specs.Grant.{grant_steps}
use Rattle.query_server.specs.Work.{to_grant}
use Rattle.query_server.proofs.Ends.{failed_end, passed_end}
use Rattle.query_server.proofs.Ran.{passed_disk}
use Rattle.owner_books.proofs.Stops.{step_no_disk}
use Rattle.query_server.proofs.grant.grant_budget.Goals as goal

pub returns-in_err-opened-clause-end : goal.returns-in_err-opened-clause-end
returns-in_err-opened-clause-end g c = λ left.
    passed_end _ left _ _ (g.B.Bay.shelf c.args.bay.now) (grant_steps c.args.catalog.now c.args.key.now c.args.owner.now c.args.amount) _ c.from_residual.result
    (owner_stopped _ _ _ (to_grant c.args.amount) c.args.catalog.now c.args.key.now c.args.owner.now _ c.in_err-opened.ensures.step) c.from_residual.ensures.1

pub returns-clause-end : goal.returns-clause-end
returns-clause-end g c = λ left.
    failed_end _ left _ _ _ _ _ (to_grant c.args.amount c.in_ok-opened.opened) _
    (owner_done _ _ _ (to_grant c.args.amount) c.args.catalog.now c.args.key.now c.args.owner.now _ c.in_ok-opened.ensures.step) c.grant.ensures.end

pub returns-in_err-opened-clause-disk : goal.returns-in_err-opened-clause-disk
returns-in_err-opened-clause-disk g c = λ line is.
    let stop = c.in_err-opened.field-0.0 in
    step_no_disk _ _ _ (grant_steps c.args.catalog.now c.args.key.now c.args.owner.now c.args.amount) stop line
    (owner_stopped _ _ _ (to_grant c.args.amount) c.args.catalog.now c.args.key.now c.args.owner.now _ c.in_err-opened.ensures.step) (passed_disk stop c.from_residual.result line c.from_residual.ensures.1 is)

pub returns-in_err-opened-clause-lost : goal.returns-in_err-opened-clause-lost
returns-in_err-opened-clause-lost g c = λ line is.
    let stop = c.in_err-opened.field-0.0 in
    step_no_disk _ _ _ (grant_steps c.args.catalog.now c.args.key.now c.args.owner.now c.args.amount) stop line
    (owner_stopped _ _ _ (to_grant c.args.amount) c.args.catalog.now c.args.key.now c.args.owner.now _ c.in_err-opened.ensures.step) (passed_disk stop c.from_residual.result line c.from_residual.ensures.1 is)
