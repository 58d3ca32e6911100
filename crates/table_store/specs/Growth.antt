-- Columns that grow row by row.
use Rattle.std.specs.Prelude.{◌≡◌, ◌+◌, ◌<◌, ℕ, Bool, true, false, List, [], ◌∷◌, ◌++◌, length, map, Option, Some, None, Ok}
use Rattle.fz_ast.specs.declared.row.Column.{Column}
use Rattle.fz_ast.specs.declared.row.Column.TheVariants.{Num, Text}
use Rattle.metric_values.specs.Cells.{AllLong}
use Rattle.metric_values.specs.Columns.{cells_of, rows_of_columns}
use Rattle.metric_values.specs.Values.{Flat}
use Rattle.metric_values.specs.declared.column.Column.{Column as Cells}
use Rattle.metric_values.specs.declared.column.Column.TheVariants.{Numbers, Texts}
use Rattle.std.specs.Borrow.{Bor}
use Rattle.csv.specs.declared.reader.Reader.{Reader}
use Rattle.table_store.specs.Reader.{IsUnderHeader, records_left}
use Rattle.table_store.specs.Table.{cells_from, most_rows, row_of_cells}

-- what the cells of a column are
abbrev pub kind_of : Cells → Column
kind_of (Numbers numbers) = Num
kind_of (Texts texts) = Text

-- a column with one more cell, where the cell is of its kind
abbrev pub AddsCell : Option Flat → (old new : Cells) → Type 0
AddsCell None old new = ⊥
AddsCell (Some cell) old new = (kind_of new ≡ kind_of old) × (cells_of new ≡ cells_of old ++ cell ∷ [])

-- columns with one more row behind this many, which is that of these fields
pub record AddsRow (row : ℕ) (fields : List (List ℕ)) (old new : List Cells) : Type 0 where
  pub cells : List Flat
  pub written : cells_from row 0 (map kind_of old) fields ≡ Ok cells
  pub kinds_are : map kind_of new ≡ map kind_of old
  pub long : AllLong (row + 1) (map cells_of new)
  pub rows : rows_of_columns new ≡ rows_of_columns old ++ row_of_cells cells ∷ []

-- a reader's next record is one more row of the columns
pub record ReadsRow (row : ℕ) (from to : Reader (Bor (List ℕ))) (old new : List Cells) : Type 0 where
  pub fields : List (List ℕ)
  pub left : records_left from ≡ fields ∷ records_left to
  pub stands : IsUnderHeader (length old) to
  pub even : length fields ≡ length old
  pub adds : AddsRow row fields old new
  pub room : row < most_rows

-- whether there was one more row
abbrev pub HasRow : (found : Bool) → ℕ → (from to : Reader (Bor (List ℕ))) → (old new : List Cells) → Type 0
HasRow true row from to old new = ReadsRow row from to old new
HasRow false row from to old new = (records_left from ≡ []) × (new ≡ old)
