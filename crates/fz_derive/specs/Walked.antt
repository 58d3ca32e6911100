-- What the walk over a term's nodes looks at: how many nodes its parts have, and where their lines begin.
use Rattle.std.specs.Prelude.{◌≡◌, ℕ, ◌+◌, ◌<◌, min, List, length, slice_index}
use Rattle.fz_ast.specs.Parts.{Parts}
use Rattle.fz_ast.specs.TermNodes.{term_at, term_of}
use Rattle.fz_ast.specs.TypeNodes.{type_at}
use Rattle.fz_ast.specs.Terms.{Term}
use Rattle.fz_ast.specs.declared.span.Span.{Span}
use Rattle.fz_ast.specs.declared.term.Form.{Form}
use Rattle.fz_ast.specs.declared.term.Form.TheVariants.{Var, Num, Text, Unit as One, Unary as Op, Binary as Op2, Times, Ranged as Bounded}
use Rattle.fz_ast.specs.declared.term.Form.TheVariants.{Inject, Bang, Let, LetBang, LetPair, If, Case, Lambda}
use Rattle.derivation_rows.specs.Faults.{second_at, third_at}
use Rattle.derivation_rows.specs.Nodes.{nodes_of}
use Rattle.derivation_rows.specs.declared.rows.Places.{Places}

-- the term that a node of this form, at s, stands for
abbrev pub node_term : Parts → Span → Form → Term
node_term N s form = term_of (type_at N.types) (term_at N.terms) s form

-- to how many nodes the walk counts: more than a derivation has lines
abbrev pub most_counted : ℕ
most_counted = 4294967295

-- the number of nodes of each term, where it isn't over what is counted to
pub record AreSizes (terms : List Term) (sizes : List ℕ) : Type 0 where
  pub each : (i : ℕ) → i < length sizes → slice_index sizes i ≡ min (nodes_of (term_at terms i)) most_counted

-- where the lines of its parts begin behind line k: of one part, of two, of three
abbrev pub one_place : ℕ → Places
one_place k = record { first = k + 1; second = k + 1; third = k + 1 }

abbrev pub two_places : ℕ → Term → Places
two_places k a = record { first = k + 1; second = second_at k a; third = k + 1 }

abbrev pub three_places : ℕ → Term → Term → Places
three_places k a b = record { first = k + 1; second = second_at k a; third = third_at k a b }

abbrev pub form_places : (ℕ → Term) → Form → ℕ → Places
form_places part (Var x) k = one_place k
form_places part (Num z) k = one_place k
form_places part (Text t) k = one_place k
form_places part One k = one_place k
form_places part (Op o e) k = one_place k
form_places part (Op2 o a b) k = two_places k (part a)
form_places part (Times r e) k = one_place k
form_places part (Bounded o lo hi e) k = one_place k
form_places part (Inject o u t e) k = one_place k
form_places part (Bang r e) k = one_place k
form_places part (Let x e b) k = two_places k (part e)
form_places part (LetBang x e b) k = two_places k (part e)
form_places part (LetPair x y e b) k = two_places k (part e)
form_places part (If e a b) k = three_places k (part e) (part a)
form_places part (Case e x a y b) k = three_places k (part e) (part a)
form_places part (Lambda o x u t e) k = one_place k
