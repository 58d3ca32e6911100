use Rattle.std.proofs.Common.{◌≡◌, map, take}
use Rattle.table_store.specs.Schema.{column_kind}
use Rattle.owner_catalog.proofs.catalog.row_of.Given as goal

abbrev pub invariant-loop-column : goal.invariant-loop-column
invariant-loop-column l = l.kinds.items ≡ map column_kind (take l.column-index l.columns)
