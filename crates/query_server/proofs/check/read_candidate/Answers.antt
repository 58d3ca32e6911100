use Rattle.std.proofs.Common.{◌∙◌, refl}
use Rattle.query_server.specs.Check.{check_steps}
use Rattle.catalog_loading.proofs.Reached.{all_done, begun, decided, one_more, passed, stopped, undecided}
use Rattle.query_server.proofs.check.read_candidate.Goals as goal

pub returns-in_err-catalog-clause-step : goal.returns-in_err-catalog-clause-step
returns-in_err-catalog-clause-step g c =
    passed _ _ _ _ _ _ c.from_residual.result (stopped _ _ _ _ _ _ _ _ _ (begun _ _ (check_steps c.args.catalog.now c.args.owner.now c.args.file.now)) refl c.in_err-catalog.ensures.step) c.from_residual.ensures.1

pub returns-in_err-owner-clause-step : goal.returns-in_err-owner-clause-step
returns-in_err-owner-clause-step g c =
    let same = c.in_ok-catalog.ensures.same in
    let catalog = one_more _ _ _ _ _ _ _ _ _ (begun _ _ (check_steps c.args.catalog.now c.args.owner.now c.args.file.now)) refl c.in_ok-catalog.ensures.step in
    passed _ _ _ _ _ _ c.from_residual-in_err-owner.result (stopped _ _ _ _ _ _ _ _ _ catalog same (undecided _ _ _ _ c.in_err-owner.ensures.owner)) c.from_residual-in_err-owner.ensures.1

pub returns-in_err-dataset-clause-step : goal.returns-in_err-dataset-clause-step
returns-in_err-dataset-clause-step g c =
    let same = c.in_ok-catalog.ensures.same in
    let catalog = one_more _ _ _ _ _ _ _ _ _ (begun _ _ (check_steps c.args.catalog.now c.args.owner.now c.args.file.now)) refl c.in_ok-catalog.ensures.step in
    let owner = one_more _ _ _ _ _ _ _ _ _ catalog same (decided _ _ _ _ c.in_ok-owner.ensures.owner.is) in
    passed _ _ _ _ _ _ c.from_residual-in_err-dataset.result (stopped _ _ _ _ _ _ _ _ _ owner same (c.in_err-dataset.ensures.step c.args.owner.now c.in_ok-owner.ensures.owner)) c.from_residual-in_err-dataset.ensures.1

pub returns-in_err-program-clause-step : goal.returns-in_err-program-clause-step
returns-in_err-program-clause-step g c =
    let same = c.in_ok-catalog.ensures.same in
    let catalog = one_more _ _ _ _ _ _ _ _ _ (begun _ _ (check_steps c.args.catalog.now c.args.owner.now c.args.file.now)) refl c.in_ok-catalog.ensures.step in
    let owner = one_more _ _ _ _ _ _ _ _ _ catalog same (decided _ _ _ _ c.in_ok-owner.ensures.owner.is) in
    let dataset = one_more _ _ _ _ _ _ _ _ _ owner same (c.in_ok-dataset.ensures.step c.args.owner.now c.in_ok-owner.ensures.owner) in
    passed _ _ _ _ _ _ c.from_residual-in_err-program.result (stopped _ _ _ _ _ _ _ _ _ dataset (c.in_ok-dataset.ensures.same ∙ same) c.in_err-program.ensures.step) c.from_residual-in_err-program.ensures.1

pub returns-clause-step : goal.returns-clause-step
returns-clause-step g c =
    let same = c.in_ok-catalog.ensures.same in
    let steps = check_steps c.args.catalog.now c.args.owner.now c.args.file.now in
    let catalog = one_more _ _ _ _ _ _ _ _ _ (begun _ _ steps) refl c.in_ok-catalog.ensures.step in
    let owner = one_more _ _ _ _ _ _ _ _ _ catalog same (decided _ _ _ _ c.in_ok-owner.ensures.owner.is) in
    let dataset = one_more _ _ _ _ _ _ _ _ _ owner same (c.in_ok-dataset.ensures.step c.args.owner.now c.in_ok-owner.ensures.owner) in
    all_done _ _ _ steps _ (one_more _ _ _ _ _ _ _ _ _ dataset (c.in_ok-dataset.ensures.same ∙ same) c.in_ok-program.ensures.step)
