-- What divides a table: each row has a class, which a column or a function says, and a part has the rows of one class.
use Rattle.std.specs.Prelude.{◌≡◌, ◌≤◌, ℕ, List, [], bytes_eq, cond, filter, length, nat_lt, option_map, slice_get, Option, Some, None}
use Rattle.std.specs.List.{IsDistinct}
use Rattle.partition_charge.specs.Views.{partition_limit, part_limit}
use Rattle.fz_ast.specs.Signature.{Signature, TableType}
use Rattle.fz_ast.specs.Terms.{Term}
use Rattle.fz_ast.specs.Types.{Ty, TextT}
use Rattle.metric_values.specs.Cells.{cell_at}
use Rattle.metric_values.specs.Values.{Flat, TextF}
use Rattle.table_store.specs.Groups.{has_text}
use Rattle.row_functions.specs.RowFunctions.{IsRowFunction, row_text}
use Rattle.owner_catalog.specs.Entries.{PartitionEntry}
use Rattle.part_views.specs.Partitions.{cell_type}

-- what says a row's class: its cell in a column, or the text that a function gives for it
pub data Class : Type 0 where
  by_column : (column : ℕ) → Class
  by_function : (function : Term) → Class

abbrev pub class_of : Class → Flat → Flat
class_of (by_column column) row = cell_at column row
class_of (by_function function) row = TextF (row_text function row)

-- the rows whose class is the key, in order; none where there is no such key
abbrev pub rows_of_class : Class → (key : Option (List ℕ)) → List Flat → List Flat
rows_of_class class None rows = []
rows_of_class class (Some key) rows = filter (λ row. has_text key (class_of class row)) rows

-- a table, what says its rows' classes, and the classes that have a part
pub record Cut : Type 0 where
  pub table : ℕ
  pub class : Class
  pub keys : List (List ℕ)

abbrev pub cut_of : PartitionEntry → Cut
cut_of partition = record { table = partition.table; class = by_column partition.column; keys = partition.keys }

-- How a partition divides its table: below the limit as the catalog says, and from there on as what is made says.
abbrev pub cut_at : List PartitionEntry → (made : Option Cut) → (partition : ℕ) → Option Cut
cut_at partitions made p = cond (nat_lt p partition_limit) (option_map cut_of (slice_get partitions p)) made

-- the class of each row of this type is a text
abbrev pub IsClassOf : (row : Ty) → Class → Type 0
IsClassOf row (by_column column) = cell_type column row ≡ TextT
IsClassOf row (by_function function) = IsRowFunction row function

-- It names one of the tables, and classes of its rows, none of them twice.
pub record IsCutOf (tables : Signature) (cut : Cut) : Type 0 where
  pub table : TableType
  pub there : slice_get tables cut.table ≡ Some table
  pub class : IsClassOf table.row cut.class
  pub few : length cut.keys ≤ part_limit
  pub distinct : IsDistinct bytes_eq cut.keys
