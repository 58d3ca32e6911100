-- What a catalog holds.
use Rattle.std.specs.Prelude.{ℕ, List, [], map, get_or, Option, option_map, bytes_eq}
use Rattle.std.specs.List.{find}
use Rattle.fz_ast.specs.Signature.{Signature, TableType}
use Rattle.table_store.specs.Schema.{NamedColumn, row_of_schema}

-- a table's name, the name of its file, and its columns
pub record TableEntry : Type 0 where
  pub name : List ℕ
  pub file : List ℕ
  pub columns : List NamedColumn

-- a partition's name, its table and the text column by their numbers, and its keys
pub record PartitionEntry : Type 0 where
  pub name : List ℕ
  pub table : ℕ
  pub column : ℕ
  pub keys : List (List ℕ)

-- the name of an analyst, and the most that what it asks may cost, in millionths
pub record LimitEntry : Type 0 where
  pub analyst : List ℕ
  pub budget : ℕ

-- An owner: the budget in millionths, the capacity in records, and the compact text of the object that it was read from.
pub record OwnerEntry : Type 0 where
  pub name : List ℕ
  pub budget : ℕ
  pub capacity : ℕ
  pub tables : List TableEntry
  pub partitions : List PartitionEntry
  pub limits : List LimitEntry
  pub text : List ℕ

-- the names of the analysts, the owners, and the compact text of the list of analysts
pub record Catalog : Type 0 where
  pub analysts : List (List ℕ)
  pub owners : List OwnerEntry
  pub text : List ℕ

-- the owner of a number, its table of a number, and its partition of a number, where each is there
abbrev pub owner_entry_at : Catalog → ℕ → OwnerEntry
owner_entry_at catalog o =
    get_or catalog.owners o (record { name = []; budget = 0; capacity = 0; tables = []; partitions = []; limits = []; text = [] })

abbrev pub table_entry_at : Catalog → (owner table : ℕ) → TableEntry
table_entry_at catalog o t = get_or (owner_entry_at catalog o).tables t (record { name = []; file = []; columns = [] })

abbrev pub partition_entry_at : Catalog → (owner partition : ℕ) → PartitionEntry
partition_entry_at catalog o p = get_or (owner_entry_at catalog o).partitions p (record { name = []; table = 0; column = 0; keys = [] })

abbrev pub table_name : TableEntry → List ℕ
table_name table = table.name

abbrev pub table_columns : TableEntry → List NamedColumn
table_columns table = table.columns

abbrev pub partition_name : PartitionEntry → List ℕ
partition_name partition = partition.name

abbrev pub owner_name : OwnerEntry → List ℕ
owner_name owner = owner.name

abbrev pub limit_analyst : LimitEntry → List ℕ
limit_analyst limit = limit.analyst

abbrev pub limit_budget : LimitEntry → ℕ
limit_budget limit = limit.budget

-- an owner's limit for the analyst of this name, if there is one
abbrev pub limit_for : OwnerEntry → (analyst : List ℕ) → Option ℕ
limit_for owner analyst = option_map limit_budget (find (λ limit. bytes_eq analyst limit.analyst) owner.limits)

-- a table as programs see it: its name and the type of its rows
abbrev pub table_type_of : TableEntry → TableType
table_type_of table = record { name = table.name; row = row_of_schema table.columns }

-- the tables that programs over an owner may name, in order
abbrev pub owner_signature : OwnerEntry → Signature
owner_signature owner = map table_type_of owner.tables
