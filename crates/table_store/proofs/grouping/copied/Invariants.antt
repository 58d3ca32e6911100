use Rattle.std.proofs.Common.{◌≡◌, take}
use Rattle.table_store.specs.Groups.{texts_of}
use Rattle.table_store.proofs.grouping.copied.Given as goal

abbrev pub invariant-loop-text : goal.invariant-loop-text
invariant-loop-text l = record { so_far : l.copy ≡ texts_of (take l.text-index l.texts) }
