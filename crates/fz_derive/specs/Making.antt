-- What making the least derivation keeps, and what it answers.
use Rattle.std.specs.Prelude.{◌≡◌, true, false, ℕ, ◌<◌, List, ◌++◌, length, Option, Some, None, Result, Ok, Err, ⊤}
use Rattle.fz_ast.specs.Parts.{Parts}
use Rattle.fz_ast.specs.Terms.{Term}
use Rattle.fz_ast.specs.Types.{Ty}
use Rattle.fz_ast.specs.TypeNodes.{type_at}
use Rattle.fz_ast.specs.declared.span.Span.{Span}
use Rattle.fz_ast.specs.declared.term.Form.{Form}
use Rattle.fz_ast.specs.declared.term.Form.TheVariants.{Unary as Op, Times, Ranged as Bounded, Inject, Bang}
use Rattle.term_meanings.specs.Scopes.{Context}
use Rattle.derivation_rows.specs.Faults.{first_type}
use Rattle.derivation_rows.specs.Formed.{ArePlaced, form_row}
use Rattle.derivation_lines.specs.Held.{AreHeld, lines_in}
use Rattle.derivation_lines.specs.Interned.{AreWritten}
use Rattle.fz_derive.specs.Least.{Derived, above, least, lines_of, said_of_each, sorted_names}
use Rattle.derivation_lines.specs.Lines.{Line, line_at}
use Rattle.derivation_rows.specs.Rows.{Row}
use Rattle.derivation_lines.specs.Said.{says_of}
use Rattle.derivation_rows.specs.Scoped.{HasKnownTypes}
use Rattle.derivation_rows.specs.Shapes.{is_bang}
use Rattle.fz_derive.specs.Walked.{node_term}
use Rattle.derivation_lines.specs.declared.line.Line.{Line as KeptLine}
use Rattle.fz_derive.specs.declared.least_line.LeastFault.{LeastFault}
use Rattle.fz_derive.specs.declared.least_line.LeastFault.TheVariants.{Fails, NoMemory}
use Rattle.derivation_rows.specs.declared.rows.Places.{Places}
use Rattle.derivation_rows.specs.declared.scope.Bound.{Bound}

-- what making looks at: the types written in the term have their numbers in the arena, and the types of names and lines are there
pub record IsMaking (N : Parts) (T : List Ty) (m : List ℕ) (bs : List Bound) (L : List KeptLine) : Type 0 where
  pub some : 0 < length T
  pub written : AreWritten N.types T m
  pub scope : HasKnownTypes T bs
  pub held : AreHeld T L

-- the line that this row makes, or that no line comes of it
abbrev pub IsOwn : Context → Option Row → List Ty → Result KeptLine LeastFault → Type 0
IsOwn Γ o U (Ok line) =
    (r : Row) × (o ≡ Some r) × (line.ty < length U) × (type_at U line.ty ≡ r.ty) × (said_of_each (sorted_names Γ) r.number ≡ Some (says_of line.says.items))
IsOwn Γ o U (Err Fails) = (below : List Line) → above Γ o below ≡ None
IsOwn Γ o U (Err NoMemory) = ⊤

-- there are these lines more, behind the others
pub record AreMore (T : List Ty) (old : List KeptLine) (U : List Ty) (new : List KeptLine) (more : List Line) : Type 0 where
  pub lines : lines_in U new ≡ lines_in T old ++ more
  pub held : AreHeld U new

-- the term's least derivation is there, behind the others, or there is none
abbrev pub Adds : Context → Term → List Ty → List KeptLine → List Ty → List KeptLine → Result Unit LeastFault → Type 0
Adds Γ e T old U new (Ok _) = (d : Derived) × (least Γ e ≡ Some d) × AreMore T old U new (lines_of d)
Adds Γ e T old U new (Err Fails) = least Γ e ≡ None
Adds Γ e T old U new (Err NoMemory) = ⊤

-- the parts' least derivations are there, behind the others, at these places, or the node has none
abbrev pub AddsParts : Parts → Context → Form → List Ty → List KeptLine → List Ty → List KeptLine → Result Places LeastFault → Type 0
AddsParts N Γ form T old U new (Ok p) =
    (below : List Line) × AreMore T old U new below × ArePlaced (length new) form p
    × ((s : Span) → least Γ (node_term N s form)
    ≡ above Γ (form_row (type_at N.types) Γ form (line_at (lines_in U new) p.first) (line_at (lines_in U new) p.second) (line_at (lines_in U new) p.third)) below)
AddsParts N Γ form T old U new (Err Fails) = (s : Span) → least Γ (node_term N s form) ≡ None
AddsParts N Γ form T old U new (Err NoMemory) = ⊤

-- e is the one part of a form
abbrev pub IsOnePart : Form → ℕ → Type 0
IsOnePart (Op o d) e = d ≡ e
IsOnePart (Times k d) e = d ≡ e
IsOnePart (Bounded o lo hi d) e = d ≡ e
IsOnePart (Inject o u t d) e = d ≡ e
IsOnePart (Bang r d) e = d ≡ e
IsOnePart form e = ⊥

-- the number of the type under a bang, and that any other type is none
abbrev pub IsUnderBang : List Ty → Option ℕ → Ty → Type 0
IsUnderBang T (Some n) A = (n < length T) × (is_bang A ≡ true) × (first_type A ≡ type_at T n)
IsUnderBang T None A = is_bang A ≡ false
