use Rattle.std.proofs.Common.{◌≡◌, length}
use Rattle.memory_runs.proofs.Bays.{AreThere}
use Rattle.memory_runs.proofs.journals.homes_on.Given as goal

abbrev pub invariant-loop : goal.invariant-loop
invariant-loop l = record {
  count : length l.homes.items ≡ l.counter;
  there : AreThere l.homes.items;
}
