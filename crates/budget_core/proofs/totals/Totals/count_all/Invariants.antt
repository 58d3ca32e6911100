use Rattle.std.proofs.Common.{take}
use Rattle.budget_core.specs.Kept.{IsTotalOf}
use Rattle.budget_core.proofs.totals.Totals.count_all.Given as goal

-- the first ones were counted
abbrev pub invariant-loop-slot : goal.invariant-loop-slot
invariant-loop-slot l = IsTotalOf l.entry (take l.slot l.records) l.self
