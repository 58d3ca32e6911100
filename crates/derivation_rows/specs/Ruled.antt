-- What the code's rows stand for: a type, of which parts are numbers in an arena, and numbers of parts, whose lines stand at places.
use Rattle.std.specs.Prelude.{◌≡◌, List, length, Option, Some, None, ⊤}
use Rattle.fz_ast.specs.Terms.{Name}
use Rattle.fz_ast.specs.Types.{Ty}
use Rattle.fz_ast.specs.TypeNodes.{type_at}
use Rattle.derivation_lines.specs.Lines.{Line, line_at}
use Rattle.derivation_rows.specs.Placed.{AreOne, number_of}
use Rattle.derivation_rows.specs.Rows.{Row}
use Rattle.derivation_rows.specs.Shapes.{shape_type, IsKnownShape}
use Rattle.derivation_rows.specs.declared.row.Part.{Part}
use Rattle.derivation_rows.specs.declared.row.Row.{Row as Ruled}

-- a part's line, of which the code holds the place and the type
abbrev pub part_line : List Ty → List Line → Part → Line
part_line T lines p = record { ty = type_at T p.ty; says = (line_at lines p.at).says }

-- the code's row is this one
pub record IsRuled (T : List Ty) (lines : List Line) (r : Ruled) (w : Row) : Type 0 where
  pub known : IsKnownShape (length T) r.shape
  pub ty : shape_type T r.shape ≡ w.ty
  pub numbers : (x : Name) → AreOne (number_of lines r.numbers x) (w.number x)

-- the code's row, or that there is none, is that of the rule
abbrev pub IsRow : List Ty → List Line → Option Ruled → Option Row → Type 0
IsRow T lines (Some r) (Some w) = IsRuled T lines r w
IsRow T lines (Some r) None = ⊥
IsRow T lines None (Some w) = ⊥
IsRow T lines None None = ⊤
