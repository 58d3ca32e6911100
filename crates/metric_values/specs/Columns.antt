-- What the code's columns and cells stand for.
use Rattle.std.specs.Prelude.{List, map}
use Rattle.metric_values.specs.Cells.{side_by_side}
use Rattle.metric_values.specs.Values.{Flat, NumF, TextF}
use Rattle.metric_values.specs.declared.column.Cell.{Cell}
use Rattle.metric_values.specs.declared.column.Cell.TheVariants.{Number, Text}
use Rattle.metric_values.specs.declared.column.Column.{Column}
use Rattle.metric_values.specs.declared.column.Column.TheVariants.{Numbers, Texts}

-- a column's cells as elements
abbrev pub cells_of : Column → List Flat
cells_of (Numbers numbers) = map NumF numbers.items
cells_of (Texts texts) = map TextF texts

-- the rows of columns side by side
abbrev pub rows_of_columns : List Column → List Flat
rows_of_columns columns = side_by_side (map cells_of columns)

-- a cell as an element
abbrev pub element_of : Cell → Flat
element_of (Number z) = NumF z
element_of (Text s) = TextF s.now
