-- The type of a table's rows.
use Rattle.std.specs.Prelude.{List, [], ◌∷◌, map}
use Rattle.fz_ast.specs.Types.{Ty, NumT, TextT, UnitT}
use Rattle.fz_ast.specs.Signature.{row_of}
use Rattle.fz_ast.specs.declared.row.Column.{Column}
use Rattle.fz_ast.specs.declared.row.Column.TheVariants.{Num, Text}

abbrev pub column_type : Column → Ty
column_type Num = NumT
column_type Text = TextT

-- c1 * (c2 * (..)) over the columns
unfoldable pub row_type : List Column → Ty
row_type [] = UnitT
row_type (c ∷ cs) = row_of (column_type c) (map column_type cs)
