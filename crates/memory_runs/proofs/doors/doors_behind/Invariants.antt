use Rattle.std.proofs.Common.{◌≡◌, length}
use Rattle.memory_runs.proofs.doors.doors_behind.Given as goal

abbrev pub invariant-loop : goal.invariant-loop
invariant-loop l = length l.doors.items ≡ l.counter
