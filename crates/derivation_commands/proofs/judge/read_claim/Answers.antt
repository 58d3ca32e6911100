use Rattle.std.proofs.Common.{refl}
use Rattle.catalog_loading.proofs.Reached.{all_done, begun, one_more, passed, stopped}
use Rattle.derivation_commands.specs.Task.{judge_steps}
use Rattle.derivation_commands.proofs.Done.{file_short}
use Rattle.derivation_commands.proofs.judge.read_claim.Goals as goal

pub returns-in_err-subject-clause-step : goal.returns-in_err-subject-clause-step
returns-in_err-subject-clause-step g c =
    let steps = judge_steps c.args.catalog.now c.args.owner.now c.args.file.now c.args.derivation.now in
    passed _ _ _ _ _ _ c.from_residual.result (stopped _ _ _ _ _ _ _ _ _ (begun _ _ steps) refl c.in_err-subject.ensures.step) c.from_residual.ensures.1

pub returns-in_err-derivation-clause-step : goal.returns-in_err-derivation-clause-step
returns-in_err-derivation-clause-step g c =
    let steps = judge_steps c.args.catalog.now c.args.owner.now c.args.file.now c.args.derivation.now in
    let subject = one_more _ _ _ _ _ _ _ _ _ (begun _ _ steps) refl c.in_ok-subject.ensures.step in
    passed _ _ _ _ _ _ c.from_residual-in_err-derivation.result (stopped _ _ _ _ _ _ _ _ _ subject c.in_ok-subject.ensures.same c.in_err-derivation.ensures.step) c.from_residual-in_err-derivation.ensures.1

pub returns-clause-step : goal.returns-clause-step
returns-clause-step g c =
    let steps = judge_steps c.args.catalog.now c.args.owner.now c.args.file.now c.args.derivation.now in
    let subject = one_more _ _ _ _ _ _ _ _ _ (begun _ _ steps) refl c.in_ok-subject.ensures.step in
    all_done _ _ _ steps _ (one_more _ _ _ _ _ _ _ _ _ subject c.in_ok-subject.ensures.same c.in_ok-derivation.ensures.step)

pub returns-clause-short : goal.returns-clause-short
returns-clause-short g c = file_short _ _ _ c.args.derivation.now _ c.in_ok-derivation.ensures.step
