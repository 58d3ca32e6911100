-- What every catalog keeps that was read.
use Rattle.std.specs.Prelude.{◌≡◌, ℕ, ◌<◌, ◌≤◌, List, [], map, length, get_or, true, Some, bytes_eq, slice_get}
use Rattle.std.specs.List.{All, IsDistinct, list_any}
use Rattle.fz_ast.specs.declared.row.Column.TheVariants.{Text}
use Rattle.partition_charge.specs.Views.{part_limit, partition_limit}
use Rattle.budget_core.specs.Entries.{analyst_limit, budget_limit, capacity_limit}
use Rattle.table_store.specs.Schema.{NamedColumn, IsSchema}
use Rattle.owner_catalog.specs.Limits.{owner_limit, table_limit}
use Rattle.owner_catalog.specs.Forms.{is_catalog_name, is_table_name, is_file_name, is_key}
use Rattle.owner_catalog.specs.Entries.{TableEntry, PartitionEntry, LimitEntry, OwnerEntry, Catalog, table_name, table_columns}
use Rattle.owner_catalog.specs.Entries.{partition_name, limit_analyst, owner_name}

abbrev pub HasName : NamedColumn → Type 0
HasName column = is_catalog_name column.name ≡ true

abbrev pub IsCatalogName : List ℕ → Type 0
IsCatalogName name = is_catalog_name name ≡ true

abbrev pub IsKey : List ℕ → Type 0
IsKey key = is_key key ≡ true

pub record IsTableEntry (table : TableEntry) : Type 0 where
  pub name : is_table_name table.name ≡ true
  pub file : is_file_name table.file ≡ true
  pub columns : IsSchema table.columns
  pub names : All HasName table.columns

-- a partition of some tables by a text column of one of them
pub record IsPartition (tables : List TableEntry) (partition : PartitionEntry) : Type 0 where
  pub name : is_catalog_name partition.name ≡ true
  pub table : partition.table < length tables
  pub column : NamedColumn
  pub there : slice_get (get_or (map table_columns tables) partition.table []) partition.column ≡ Some column
  pub text : column.kind ≡ Text
  pub some : 1 ≤ length partition.keys
  pub few : length partition.keys ≤ part_limit
  pub keys : All IsKey partition.keys
  pub distinct : IsDistinct bytes_eq partition.keys

pub record IsLimit (limit : LimitEntry) : Type 0 where
  pub least : 1 ≤ limit.budget
  pub most : limit.budget ≤ budget_limit

pub record IsOwner (owner : OwnerEntry) : Type 0 where
  pub name : is_catalog_name owner.name ≡ true
  pub least_budget : 1 ≤ owner.budget
  pub most_budget : owner.budget ≤ budget_limit
  pub least_capacity : 2 ≤ owner.capacity
  pub most_capacity : owner.capacity ≤ capacity_limit
  pub some_tables : 1 ≤ length owner.tables
  pub few_tables : length owner.tables ≤ table_limit
  pub tables : All IsTableEntry owner.tables
  pub distinct_tables : IsDistinct bytes_eq (map table_name owner.tables)
  pub few_partitions : length owner.partitions ≤ partition_limit
  pub partitions : All (IsPartition owner.tables) owner.partitions
  pub distinct_partitions : IsDistinct bytes_eq (map partition_name owner.partitions)
  pub few_limits : length owner.limits ≤ analyst_limit
  pub limits : All IsLimit owner.limits
  pub distinct_limits : IsDistinct bytes_eq (map limit_analyst owner.limits)

-- each limit of an owner is for one of these analysts
abbrev pub HasLimitsFor : (analysts : List (List ℕ)) → OwnerEntry → Type 0
HasLimitsFor analysts owner = All (λ (limit : LimitEntry). list_any (bytes_eq limit.analyst) analysts ≡ true) owner.limits

pub record IsCatalog (catalog : Catalog) : Type 0 where
  pub some_analysts : 1 ≤ length catalog.analysts
  pub few_analysts : length catalog.analysts ≤ analyst_limit
  pub analysts : All IsCatalogName catalog.analysts
  pub distinct_analysts : IsDistinct bytes_eq catalog.analysts
  pub some_owners : 1 ≤ length catalog.owners
  pub few_owners : length catalog.owners ≤ owner_limit
  pub owners : All IsOwner catalog.owners
  pub limits : All (HasLimitsFor catalog.analysts) catalog.owners
  pub distinct_owners : IsDistinct bytes_eq (map owner_name catalog.owners)
