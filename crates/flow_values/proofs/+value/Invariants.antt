use Rattle.std.proofs.Common.{◌≤◌}
use Rattle.flow_values.proofs.+value.Given as goal

abbrev pub invariant-value::Chain::drop-loop-rc : goal.invariant-value::Chain::drop-loop-rc
invariant-value::Chain::drop-loop-rc l = l.self.deep ≤ l.initial.self.deep

abbrev pub invariant-value::Scope::drop-loop-rc : goal.invariant-value::Scope::drop-loop-rc
invariant-value::Scope::drop-loop-rc l = l.self.deep ≤ l.initial.self.deep
