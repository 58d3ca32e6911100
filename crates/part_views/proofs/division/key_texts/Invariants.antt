use Rattle.std.proofs.Common.{◌≡◌, take}
use Rattle.table_store.specs.Groups.{texts_of}
use Rattle.owner_catalog.specs.Entries.{partition_entry_at}
use Rattle.part_views.proofs.division.key_texts.Given as goal

abbrev pub invariant-loop-j : goal.invariant-loop-j
invariant-loop-j l = record { so_far : texts_of l.texts.items ≡ take l.j (partition_entry_at l.catalog l.owner l.p).keys }
