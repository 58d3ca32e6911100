-- The columns of a table, by name and kind.
use Rattle.std.specs.Prelude.{◌≤◌, ℕ, List, map, length, bytes_eq}
use Rattle.std.specs.List.{IsDistinct}
use Rattle.fz_ast.specs.Rows.{row_type}
use Rattle.fz_ast.specs.Types.{Ty}
use Rattle.fz_ast.specs.declared.row.Column.{Column}

pub record NamedColumn : Type 0 where
  pub name : List ℕ
  pub kind : Column

abbrev pub column_name : NamedColumn → List ℕ
column_name column = column.name

abbrev pub column_kind : NamedColumn → Column
column_kind column = column.kind

-- how many columns a table may have
abbrev pub most_columns : ℕ
most_columns = 16

-- the columns of a table: some, not too many, and no two of one name
pub record IsSchema (schema : List NamedColumn) : Type 0 where
  pub some : 1 ≤ length schema
  pub few : length schema ≤ most_columns
  pub distinct : IsDistinct bytes_eq (map column_name schema)

-- the type of a table's rows
abbrev pub row_of_schema : List NamedColumn → Ty
row_of_schema schema = row_type (map column_kind schema)
