use Rattle.std.proofs.Common.{subst}
use Rattle.shape_run.specs.Plans.{IsStopOf}
use Rattle.answer_path.proofs.Told.{fault_refused, has_table, planned_accepted, stopped_refused, stopped_walks}
use Rattle.answer_path.proofs.program.admit_apart.Goals as goal

pub fault_refusal-requires-clause-table : goal.fault_refusal-requires-clause-table
fault_refusal-requires-clause-table c = has_table c.args.sig.now c.args.term.now c.in-Err.fault c.in-Err.ensures.fault

pub returns-in-Err-clause-unadmitted : goal.returns-in-Err-clause-unadmitted
returns-in-Err-clause-unadmitted c = fault_refused c.args.sig.now c.args.term.now c.in-Err.fault _ c.in-Err.ensures.fault c.fault_refusal.ensures

pub returns-in-Ok-shape-clause-admitted : goal.returns-in-Ok-shape-clause-admitted
returns-in-Ok-shape-clause-admitted c = record {
  checked = c.in-Ok.ensures.checked;
  planned = c.in-Ok-shape.ensures.planned;
  accepts = planned_accepted c.args.sig.now c.args.term.now c.in-Ok.checked c.in-Ok-shape.plan c.in-Ok.ensures.checked c.in-Ok-shape.ensures.planned;
}

pub returns-clause-unadmitted : goal.returns-clause-unadmitted
returns-clause-unadmitted c = stopped_refused c.args.sig.now c.args.term.now c.in-Ok.checked c.in-Err-shape.fault _ c.in-Ok.ensures.checked c.in-Err-shape.ensures.stopped c.limit_refusal.ensures

pub returns-in-Err-TooManyWalks-clause-unadmitted : goal.returns-in-Err-TooManyWalks-clause-unadmitted
returns-in-Err-TooManyWalks-clause-unadmitted c =
    stopped_walks c.args.sig.now c.args.term.now c.in-Ok.checked c.in-Ok.ensures.checked
    (subst (IsStopOf c.args.sig.now c.args.term.now) c.in-Err-TooManyWalks.field-0-is c.in-Err-TooManyWalks.ensures.stopped)
