use Rattle.std.proofs.Common.{drop}
use Rattle.outside_disks.specs.Memory.{steps_of}
use Rattle.outside_disks.proofs.Stops.{Replayed}
use Rattle.outside_disks.proofs.memory.left_after.Given as goal

abbrev pub invariant-loop-step : goal.invariant-loop-step
invariant-loop-step l = Replayed l.torn l.start (steps_of l.steps l.written) (drop l.step-index l.steps) l.pool l.read.items l.left.items
