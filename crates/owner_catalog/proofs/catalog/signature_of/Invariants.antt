use Rattle.std.proofs.Common.{◌≡◌, map, take}
use Rattle.owner_catalog.specs.Entries.{table_type_of}
use Rattle.owner_catalog.proofs.catalog.signature_of.Given as goal

abbrev pub invariant-loop-table : goal.invariant-loop-table
invariant-loop-table l = l.signature ≡ map table_type_of (take l.table-index l.tables)
