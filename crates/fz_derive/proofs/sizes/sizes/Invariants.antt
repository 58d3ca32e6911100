use Rattle.std.proofs.Common.{◌≤◌, ◌+◌, ◌-◌, length}
use Rattle.fz_derive.specs.Walked.{AreSizes}
use Rattle.fz_derive.proofs.sizes.sizes.Given as goal

abbrev pub invariant-loop-sizes : goal.invariant-loop-sizes
invariant-loop-sizes l = record { few : length l.sizes.items ≤ l.root + 1; are : AreSizes l.nodes.terms l.sizes.items }

abbrev pub decreases-loop-sizes : goal.decreases-loop-sizes
decreases-loop-sizes l = l.root + 1 - length l.sizes.items
