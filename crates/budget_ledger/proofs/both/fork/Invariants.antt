use Rattle.std.proofs.Common.{◌≡◌, take}
use Rattle.budget_ledger.proofs.both.fork.Given as goal

abbrev pub invariant-loop-slot : goal.invariant-loop-slot
invariant-loop-slot l = take l.slot l.records ≡ take l.slot l.others
