-- A catalog that is made, and not read from a file.
use Rattle.std.specs.Prelude.{ℕ, List, [], ◌∷◌}
use Rattle.fz_ast.specs.declared.row.Column.TheVariants.{Num}
use Rattle.table_store.specs.Schema.{NamedColumn}
use Rattle.owner_catalog.specs.Entries.{TableEntry, OwnerEntry, Catalog}
use Rattle.owner_catalog.specs.declared.making.OneOwner.{OneOwner}

-- one column of numbers
abbrev pub columns_of_one : List ℕ → List NamedColumn
columns_of_one name = record { name = name; kind = Num } ∷ []

-- the table
abbrev pub table_of_one : OneOwner → TableEntry
table_of_one one = record { name = one.table.now; file = one.file.now; columns = columns_of_one one.column.now }

-- the owner, of whom no text was read
abbrev pub owner_of_one : OneOwner → OwnerEntry
owner_of_one one = record {
  name = one.owner.now;
  budget = one.budget;
  capacity = one.capacity;
  tables = table_of_one one ∷ [];
  partitions = [];
  limits = [];
  text = [];
}

-- one analyst, and one owner of one table; no text was read
abbrev pub catalog_of_one : OneOwner → Catalog
catalog_of_one one = record { analysts = one.analyst.now ∷ []; owners = owner_of_one one ∷ []; text = [] }
