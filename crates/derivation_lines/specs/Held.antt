-- The lines that the code's lines stand for.
use Rattle.std.specs.Prelude.{List, map, ◌<◌, length}
use Rattle.std.specs.List.{AllByRecursion}
use Rattle.fz_ast.specs.Types.{Ty}
use Rattle.fz_ast.specs.TypeNodes.{type_at}
use Rattle.derivation_lines.specs.Lines.{Line}
use Rattle.derivation_lines.specs.Said.{says_of}
use Rattle.derivation_lines.specs.declared.line.Line.{Line as Kept}

-- T is the arena's types
abbrev pub line_in : List Ty → Kept → Line
line_in T l = record { ty = type_at T l.ty; says = says_of l.says.items }

abbrev pub lines_in : List Ty → List Kept → List Line
lines_in T = map (line_in T)

-- each line's type is in the arena
abbrev pub AreHeld : List Ty → List Kept → Type 0
AreHeld T = AllByRecursion (λ (l : Kept). l.ty < length T)
