use Rattle.std.proofs.Common.{◌≡◌}
use Rattle.owner_lock.specs.Passes.{IsSameLock, known}
use Rattle.budget_tests.proofs.clerks.note_all.Given as goal

abbrev pub invariant-loop-number : goal.invariant-loop-number
invariant-loop-number g l = IsSameLock l.initial.pass l.pass × ((known l.pass).share ≡ (known l.initial.pass).share)
