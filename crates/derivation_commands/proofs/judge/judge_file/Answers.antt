use Rattle.catalog_loading.specs.declared.stops.Stop.TheVariants.{NoMemory}
use Rattle.catalog_loading.proofs.Reached.{cut_behind}
use Rattle.derivation_commands.specs.Task.{judge_steps}
use Rattle.derivation_commands.specs.Held.{task_of}
use Rattle.derivation_commands.proofs.Done.{done_so, stopped_so}
use Rattle.derivation_commands.proofs.judge.judge_file.Goals as goal

pub returns-in_err-claim-clause-end : goal.returns-in_err-claim-clause-end
returns-in_err-claim-clause-end g c =
    let steps = judge_steps c.args.catalog.now c.args.owner.now c.args.file.now c.args.derivation.now in
    stopped_so _ _ _ steps _ c.from_residual.result c.in_err-claim.ensures.step c.from_residual.ensures.1

pub returns-in_err-ending-clause-end : goal.returns-in_err-ending-clause-end
returns-in_err-ending-clause-end g c =
    let steps = judge_steps c.args.catalog.now c.args.owner.now c.args.file.now c.args.derivation.now in
    let task = task_of c.in_ok-claim.claim in
    stopped_so _ _ _ steps NoMemory c.from_residual-in_err-ending.result (cut_behind _ _ _ steps task c.in_ok-claim.ensures.step) c.from_residual-in_err-ending.ensures.1

pub returns-clause-end : goal.returns-clause-end
returns-clause-end g c =
    let steps = judge_steps c.args.catalog.now c.args.owner.now c.args.file.now c.args.derivation.now in
    done_so _ _ _ steps (task_of c.in_ok-claim.claim) c.in_ok-ending.ending c.in_ok-claim.ensures.step c.in_ok-ending.ensures
