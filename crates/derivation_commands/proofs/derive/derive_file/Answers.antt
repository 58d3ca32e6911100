use Rattle.std.proofs.Common.{refl}
use Rattle.catalog_loading.specs.declared.stops.Stop.TheVariants.{NoMemory}
use Rattle.catalog_loading.proofs.Reached.{all_done, begun, cut_behind, one_more, stopped}
use Rattle.derivation_commands.specs.Task.{derive_steps, to_derive}
use Rattle.derivation_commands.specs.Held.{subject_of}
use Rattle.derivation_commands.proofs.Done.{done_so, stopped_so}
use Rattle.derivation_commands.proofs.derive.derive_file.Goals as goal

pub returns-in_err-subject-clause-end : goal.returns-in_err-subject-clause-end
returns-in_err-subject-clause-end g c =
    let steps = derive_steps c.args.catalog.now c.args.owner.now c.args.file.now in
    stopped_so _ _ _ steps _ c.from_residual.result (stopped _ _ _ _ _ _ _ _ _ (begun _ _ steps) refl c.in_err-subject.ensures.step) c.from_residual.ensures.1

pub returns-in_err-ending-clause-end : goal.returns-in_err-ending-clause-end
returns-in_err-ending-clause-end g c =
    let steps = derive_steps c.args.catalog.now c.args.owner.now c.args.file.now in
    let task = to_derive (subject_of c.in_ok-subject.subject) in
    let read = all_done _ _ _ steps task (one_more _ _ _ _ _ _ _ _ _ (begun _ _ steps) refl c.in_ok-subject.ensures.step) in
    stopped_so _ _ _ steps NoMemory c.from_residual-in_err-ending.result (cut_behind _ _ _ steps task read) c.from_residual-in_err-ending.ensures.1

pub returns-clause-end : goal.returns-clause-end
returns-clause-end g c =
    let steps = derive_steps c.args.catalog.now c.args.owner.now c.args.file.now in
    let task = to_derive (subject_of c.in_ok-subject.subject) in
    done_so _ _ _ steps task c.in_ok-ending.ending (all_done _ _ _ steps task (one_more _ _ _ _ _ _ _ _ _ (begun _ _ steps) refl c.in_ok-subject.ensures.step)) c.in_ok-ending.ensures
