-- The catalog that the bytes of a file hold, or the first fault in them.
pub use Rattle.owner_catalog.specs.Entries.{TableEntry, PartitionEntry, LimitEntry, OwnerEntry, Catalog, table_name, table_columns}
pub use Rattle.owner_catalog.specs.Entries.{partition_name, limit_analyst, owner_name}
pub use Rattle.owner_catalog.specs.Entries.{owner_signature}
pub use Rattle.owner_catalog.specs.Lawful.{IsCatalog}
use Rattle.std.specs.Prelude.{ℕ, List, [], map, get_or, codes, bytes_eq, Bool, false, true, ◌&&◌, position, Option, Some, None, Result, Ok, if◌then◌else◌}
use Rattle.std.specs.Str.{is_utf8}
use Rattle.serde_json.specs.Data.{Data}
use Rattle.serde_json.specs.Find.{as_str, get}
use Rattle.serde_json.specs.Read.{read}
use Rattle.serde_json.specs.Written.{compact_text}
use Rattle.fz_ast.specs.declared.row.Column.{Column}
use Rattle.fz_ast.specs.declared.row.Column.TheVariants.{Num, Text}
use Rattle.partition_charge.specs.Views.{part_limit, partition_limit}
use Rattle.budget_core.specs.Entries.{analyst_limit, budget_limit, capacity_limit}
use Rattle.table_store.specs.Schema.{NamedColumn, column_name, most_columns}
use Rattle.owner_catalog.specs.declared.fault.CatalogFault.{CatalogFault}
use Rattle.owner_catalog.specs.declared.fault.FaultKind.TheVariants.{Syntax, Kind, Form as BadForm, NoSuch}
use Rattle.owner_catalog.specs.declared.fault.Member.TheVariants as at
use Rattle.owner_catalog.specs.declared.fault.Place.{Place}
use Rattle.owner_catalog.specs.declared.reading.Labels.{Labels}
use Rattle.owner_catalog.specs.declared.reading.Labels.TheVariants.{Analysts, Keys}
use Rattle.owner_catalog.specs.declared.text.Form.{Form}
use Rattle.owner_catalog.specs.declared.text.Form.TheVariants.{Name, Key}
use Rattle.owner_catalog.specs.Limits.{owner_limit, table_limit}
use Rattle.owner_catalog.specs.Forms.{has_form, is_catalog_name, is_table_name, is_file_name}
use Rattle.owner_catalog.specs.Members.{catalog_members, owner_members, table_members, column_members, partition_members, limit_members, member_name}
use Rattle.owner_catalog.specs.Fault.{◌>>=◌, bad, or_bad, place, the, object_in, formed_text_in, bounded_number_in, list_in, optional_in}

-- a column's type
abbrev pub kind_named : List ℕ → Option Column
kind_named text = if bytes_eq text (codes "num") then Some Num else if bytes_eq text (codes "text") then Some Text else None

unfoldable pub kind_in : Place → Data → Result Column CatalogFault
kind_in where_it_is d = do
  text ← or_bad Kind where_it_is (as_str d)
  or_bad BadForm where_it_is (kind_named text)

-- the names of the analysts, or the keys of a partition of an owner
abbrev pub label_place : Labels → ℕ → Place
label_place Analysts a = place at.Analyst 0 a 0
label_place (Keys o p) k = place at.Key o p k

abbrev pub label_form : Labels → Form
label_form Analysts = Name
label_form (Keys o p) = Key

abbrev pub label_in : Labels → ℕ → Data → Result (List ℕ) CatalogFault
label_in labels k = formed_text_in (has_form (label_form labels)) (label_place labels k)

-- a column of a table of an owner, each by its number
unfoldable pub column_in : (owner table column : ℕ) → Data → Result NamedColumn CatalogFault
column_in o t c d = do
  object ← object_in column_members at.Column (λ m. place m o t c) d
  name ← formed_text_in is_catalog_name (place at.ColumnName o t c) (the at.ColumnName d)
  kind ← kind_in (place at.ColumnType o t c) (the at.ColumnType d)
  Ok (record { name = name; kind = kind })

unfoldable pub table_in : (owner table : ℕ) → Data → Result TableEntry CatalogFault
table_in o t d = do
  object ← object_in table_members at.Table (λ m. place m o t 0) d
  name ← formed_text_in is_table_name (place at.TableName o t 0) (the at.TableName d)
  file ← formed_text_in is_file_name (place at.File o t 0) (the at.File d)
  columns ← list_in 1 most_columns (place at.Columns o t 0) column_name (λ c. place at.Column o t c) (column_in o t) (the at.Columns d)
  Ok (record { name = name; file = file; columns = columns })

-- the number of the one that passes, or that there is no such one
unfoldable pub one_in : {A : Type 0} → (List ℕ → A → Bool) → List A → Place → Data → Result ℕ CatalogFault
one_in passes all where_it_is d = do
  text ← or_bad Kind where_it_is (as_str d)
  or_bad NoSuch where_it_is (position (passes text) all)

abbrev pub is_text_column : Column → Bool
is_text_column Num = false
is_text_column Text = true

-- a partition: its table is one of the owner's, and its column one of text there
unfoldable pub partition_in : (owner : ℕ) → List TableEntry → (partition : ℕ) → Data → Result PartitionEntry CatalogFault
partition_in o tables p d = do
  object ← object_in partition_members at.Partition (λ m. place m o p 0) d
  name ← formed_text_in is_catalog_name (place at.PartitionName o p 0) (the at.PartitionName d)
  table ← one_in (λ text t. bytes_eq text t.name) tables (place at.PartitionTable o p 0) (the at.PartitionTable d)
  column ← one_in (λ text c. bytes_eq text c.name && is_text_column c.kind) (get_or (map table_columns tables) table [])
      (place at.PartitionColumn o p 0) (the at.PartitionColumn d)
  keys ← list_in 1 part_limit (place at.Keys o p 0) (λ key. key) (label_place (Keys o p)) (label_in (Keys o p)) (the at.Keys d)
  Ok (record { name = name; table = table; column = column; keys = keys })

-- a limit, of one of the analysts
unfoldable pub limit_in : (owner : ℕ) → (analysts : List (List ℕ)) → (limit : ℕ) → Data → Result LimitEntry CatalogFault
limit_in o analysts l d = do
  object ← object_in limit_members at.Limit (λ m. place m o l 0) d
  analyst ← one_in bytes_eq analysts (place at.LimitAnalyst o l 0) (the at.LimitAnalyst d)
  budget ← bounded_number_in 1 budget_limit (place at.LimitBudget o l 0) (the at.LimitBudget d)
  Ok (record { analyst = get_or analysts analyst []; budget = budget })

-- an owner of a catalog of these analysts, each of whom may have a limit
unfoldable pub owner_in : (analysts : List (List ℕ)) → (owner : ℕ) → Data → Result OwnerEntry CatalogFault
owner_in analysts o d = do
  object ← object_in owner_members at.Owner (λ m. place m o 0 0) d
  name ← formed_text_in is_catalog_name (place at.OwnerName o 0 0) (the at.OwnerName d)
  budget ← bounded_number_in 1 budget_limit (place at.Budget o 0 0) (the at.Budget d)
  capacity ← bounded_number_in 2 capacity_limit (place at.Capacity o 0 0) (the at.Capacity d)
  tables ← list_in 1 table_limit (place at.Tables o 0 0) table_name (λ t. place at.Table o t 0) (table_in o) (the at.Tables d)
  partitions ← list_in 0 partition_limit (place at.Partitions o 0 0) partition_name (λ p. place at.Partition o p 0) (partition_in o tables)
      (the at.Partitions d)
  limits ← optional_in [] (list_in 0 analyst_limit (place at.Limits o 0 0) limit_analyst (λ l. place at.Limit o l 0) (limit_in o analysts))
      (get (member_name at.Limits) d)
  Ok (record {
    name = name;
    budget = budget;
    capacity = capacity;
    tables = tables;
    partitions = partitions;
    limits = limits;
    text = compact_text d;
  })

unfoldable pub catalog_in : Data → Result Catalog CatalogFault
catalog_in d = do
  object ← object_in catalog_members at.Catalog (λ m. place m 0 0 0) d
  analysts ← list_in 1 analyst_limit (place at.Analysts 0 0 0) (λ name. name) (label_place Analysts) (label_in Analysts) (the at.Analysts d)
  owners ← list_in 1 owner_limit (place at.Owners 0 0 0) owner_name (λ o. place at.Owner o 0 0) (owner_in analysts) (the at.Owners d)
  Ok (record { analysts = analysts; owners = owners; text = compact_text (the at.Analysts d) })

-- the JSON value of some bytes
unfoldable pub json_in : List ℕ → Result Data CatalogFault
json_in bytes = if is_utf8 bytes then or_bad Syntax (place at.Catalog 0 0 0) (read bytes) else bad Syntax (place at.Catalog 0 0 0)

-- the catalog that the bytes of a file hold, or the first fault in them
unfoldable pub catalog_in_file : List ℕ → Result Catalog CatalogFault
catalog_in_file bytes = do
  d ← json_in bytes
  catalog_in d
