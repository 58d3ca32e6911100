use Rattle.std.proofs.Common.{◌≡◌, length}
use Rattle.table_store.specs.Lookup.{places}
use Rattle.table_store.proofs.grouping.guesses.Given as goal

abbrev pub invariant-loop-i : goal.invariant-loop-i
invariant-loop-i l = record { as_many : length l.guesses.items ≡ places }
