use Rattle.catalog_loading.proofs.Houses.{house_done, house_stopped}
use Rattle.query_server.specs.Work.{to_answer}
use Rattle.query_server.specs.Run.{run_steps}
use Rattle.query_server.proofs.Ends.{took_passed, done_end, passed_end}
use Rattle.query_server.proofs.Ran.{passed_disk}
use Rattle.owner_books.proofs.Stops.{step_no_disk}
use Rattle.query_server.proofs.run.run_script.Goals as goal

pub returns-in_err-opened-clause-end : goal.returns-in_err-opened-clause-end
returns-in_err-opened-clause-end g c =
    passed_end _ _ _ _ (g.B.Bay.shelf c.args.bay.now) (run_steps c.args.catalog.now c.args.key.now c.args.workers) _ c.from_residual.result (house_stopped _ _ _ (to_answer c.args.workers) c.args.catalog.now c.args.key.now _ c.in_err-opened.ensures.step) c.from_residual.ensures.1

pub returns-in_err-opened-clause-taken : goal.returns-in_err-opened-clause-taken
returns-in_err-opened-clause-taken g c = took_passed _ _ c.from_residual.result c.from_residual.ensures.1

pub returns-clause-end : goal.returns-clause-end
returns-clause-end g c =
    let opened = c.in_ok-opened.opened in
    let due = c.answer.ensures.end in
    done_end _ _ _ _ _ _ (run_steps c.args.catalog.now c.args.key.now c.args.workers) (to_answer c.args.workers opened.loading opened.key) due.0 c.answer.result (house_done _ _ _ (to_answer c.args.workers) c.args.catalog.now c.args.key.now _ c.in_ok-opened.ensures.step) due.1 due.2

pub returns-in_err-opened-clause-disk : goal.returns-in_err-opened-clause-disk
returns-in_err-opened-clause-disk g c = λ line is.
    step_no_disk _ _ _ (run_steps c.args.catalog.now c.args.key.now 1) c.in_err-opened.field-0.0 line (house_stopped _ _ _ (to_answer 1) c.args.catalog.now c.args.key.now _ c.in_err-opened.ensures.step) (passed_disk c.in_err-opened.field-0.0 c.from_residual.result line c.from_residual.ensures.1 is)

pub returns-in_err-opened-clause-lost : goal.returns-in_err-opened-clause-lost
returns-in_err-opened-clause-lost g c = λ line is.
    step_no_disk _ _ _ (run_steps c.args.catalog.now c.args.key.now 1) c.in_err-opened.field-0.0 line (house_stopped _ _ _ (to_answer 1) c.args.catalog.now c.args.key.now _ c.in_err-opened.ensures.step) (passed_disk c.in_err-opened.field-0.0 c.from_residual.result line c.from_residual.ensures.1 is)
