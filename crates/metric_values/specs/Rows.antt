-- The rows of a table: those of its columns, or those chosen of them.
use Rattle.std.specs.Prelude.{◌<◌, ℕ, List, length, map, ⊤}
use Rattle.std.specs.Arc.{arc_value}
use Rattle.std.proofs.Common.{get_or}
use Rattle.metric_values.specs.Cells.{AreColumns, AreRows, chosen_of}
use Rattle.metric_values.specs.Columns.{cells_of, rows_of_columns}
use Rattle.metric_values.specs.Limits.{columns_below, rows_below}
use Rattle.metric_values.specs.Values.{Flat}
use Rattle.metric_values.specs.declared.column.Column.{Column}
use Rattle.metric_values.specs.declared.table.Rows.{Rows}
use Rattle.metric_values.specs.declared.table.Rows.TheVariants.{Whole, Chosen}

abbrev pub rows_of_table : List Column → Rows → List Flat
rows_of_table columns Whole = rows_of_columns columns
rows_of_table columns (Chosen numbers) = chosen_of (rows_of_columns columns) (arc_value numbers).items

-- where a row lies in the columns
abbrev pub place_in : Rows → ℕ → ℕ
place_in Whole i = i
place_in (Chosen numbers) i = get_or (arc_value numbers).items i 0

-- where rows are chosen, one of this number is
abbrev pub IsNumbered : Rows → ℕ → Type 0
IsNumbered Whole i = ⊤
IsNumbered (Chosen numbers) i = i < length (arc_value numbers).items

-- the chosen rows are there
abbrev pub AreChosen : List Column → Rows → Type 0
AreChosen columns Whole = ⊤
AreChosen columns (Chosen numbers) = AreRows (rows_of_columns columns) (arc_value numbers).items

pub record IsColumnTable (columns : List Column) (rows : Rows) : Type 0 where
  pub equal : AreColumns (map cells_of columns)
  pub narrow : length columns < columns_below
  pub chosen : AreChosen columns rows
  pub short : length (rows_of_table columns rows) < rows_below
