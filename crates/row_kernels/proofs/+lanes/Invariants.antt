use Rattle.std.proofs.Common.{◌≤◌}
use Rattle.row_kernels.specs.declared.lanes.Both.{size-Both}
use Rattle.row_kernels.proofs.+lanes.Given as goal

abbrev pub invariant-lanes::Both::drop-loop-rc : goal.invariant-lanes::Both::drop-loop-rc
invariant-lanes::Both::drop-loop-rc l = size-Both l.self ≤ size-Both l.initial.self
