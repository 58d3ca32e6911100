use Rattle.std.proofs.Common.{◌*◌, min, length}
use Rattle.flow_values.specs.Views.{steps_of}
use Rattle.row_kernels.specs.Flows.{IsFlatTotal}
use Rattle.row_kernels.proofs.flows.flat_total.Given as goal

abbrev pub invariant-loop-chunk : goal.invariant-loop-chunk
invariant-loop-chunk l = IsFlatTotal l.gather (steps_of l.stages) l.table.value (min (l.chunk * 1024) (length l.table.value)) l.total
