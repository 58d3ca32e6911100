-- What the walk over a term's nodes needs, and what it answers of two parts.
use Rattle.std.specs.Prelude.{ℕ, List, Result, Ok, Err}
use Rattle.fz_ast.specs.Parts.{Parts}
use Rattle.fz_ast.specs.TermNodes.{term_at, term_of}
use Rattle.fz_ast.specs.Terms.{Term}
use Rattle.fz_ast.specs.TypeNodes.{type_at}
use Rattle.fz_ast.specs.Types.{Ty}
use Rattle.fz_ast.specs.declared.span.Span.{Span}
use Rattle.fz_ast.specs.declared.term.Form.{Form}
use Rattle.linear_types.specs.Inferred.{Inferred, Has, two_parts}
use Rattle.typing_rows.specs.Says.{Says, IsFaultOf}
use Rattle.typing_rows.specs.declared.clause.RowFault.{RowFault}
use Rattle.sensitivity_check.specs.Scope.{HasKnownTypes}
use Rattle.sensitivity_check.specs.Written.{AreWritten}
use Rattle.sensitivity_check.specs.declared.judge.Two.{Two}
use Rattle.sensitivity_check.specs.declared.scope.Bound.{Bound}

-- the term that a node of this form, at s, stands for
abbrev pub node_term : Parts → Span → Form → Term
node_term N s form = term_of (type_at N.types) (term_at N.terms) s form

-- the types written in the term have their numbers in the arena T, and so have those of the names in scope
pub record IsReady (N : Parts) (T : List Ty) (m : List ℕ) (bs : List Bound) : Type 0 where
  pub written : AreWritten N.types T m
  pub scope : HasKnownTypes T bs

-- the code's answers are what is inferred of two parts, or the first fault among them
abbrev pub SayTwo : List Ty → Result Two RowFault → Inferred → Inferred → Type 0
SayTwo T (Ok two) v w = Says T (Ok two.first) v × Says T (Ok two.second) w
SayTwo T (Err r) v w = IsFaultOf T r (two_parts v w (λ A D B E. Has B E))
