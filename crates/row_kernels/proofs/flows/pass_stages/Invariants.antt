use Rattle.std.specs.Prelude.{drop}
use Rattle.flow_values.specs.Views.{steps_of}
use Rattle.row_kernels.proofs.Passing.{Along}
use Rattle.row_kernels.proofs.flows.pass_stages.Given as goal

abbrev pub invariant-loop-i : goal.invariant-loop-i
invariant-loop-i l = Along (steps_of l.stages) (steps_of (drop l.i l.stages)) l.table.value l.first l.len l.rows
