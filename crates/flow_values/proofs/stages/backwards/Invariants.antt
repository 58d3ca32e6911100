use Rattle.flow_values.proofs.Stranded.{AreMet}
use Rattle.flow_values.proofs.stages.backwards.Given as goal

abbrev pub invariant-loop-at : goal.invariant-loop-at
invariant-loop-at l = AreMet l.chain l.at l.out.items

abbrev pub decreases-loop-at : goal.decreases-loop-at
decreases-loop-at l = l.at.deep
