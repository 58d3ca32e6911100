-- Two owners' entries that fit: the same tables in the same order, with the same columns.
use Rattle.std.specs.Prelude.{ℕ, List, Bool, true, false, ◌&&◌, Result, Ok, Err, bytes_eq, if◌then◌else◌}
use Rattle.std.specs.Cmp.Lexicographic.{pointwise}
use Rattle.fz_ast.specs.declared.row.Column.{Column}
use Rattle.fz_ast.specs.declared.row.Column.TheVariants.{Num, Text}
use Rattle.table_store.specs.Schema.{NamedColumn}
use Rattle.owner_catalog.specs.Catalog.{Catalog, OwnerEntry, TableEntry}
use Rattle.catalog_loading.specs.Loaded.{entry_named}

abbrev pub same_kind : Column → Column → Bool
same_kind Num Num = true
same_kind Text Text = true
same_kind one other = false

abbrev pub same_column : NamedColumn → NamedColumn → Bool
same_column one other = bytes_eq one.name other.name && same_kind one.kind other.kind

-- by name and columns, whatever the files are
abbrev pub same_table : TableEntry → TableEntry → Bool
same_table one other = bytes_eq one.name other.name && pointwise same_column one.columns other.columns

-- the owner of this name, if its tables are those of the entry
abbrev pub if_fitting : OwnerEntry → (name : List ℕ) → Result OwnerEntry (List ℕ) → Result OwnerEntry (List ℕ)
if_fitting entry name (Ok other) = if pointwise same_table entry.tables other.tables then Ok other else Err name
if_fitting entry name (Err refused) = Err refused

abbrev pub fitting : OwnerEntry → Catalog → (name : List ℕ) → Result OwnerEntry (List ℕ)
fitting entry catalog name = if_fitting entry name (entry_named catalog name)
