use Rattle.std.proofs.Common.{◌≡◌, take}
use Rattle.table_store.proofs.grouping.numbered.Given as goal

abbrev pub invariant-loop-i : goal.invariant-loop-i
invariant-loop-i l = record { so_far : l.numbered.keys ≡ take l.i l.keys }
