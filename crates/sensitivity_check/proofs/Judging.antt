-- What is inferred of a term, from its parts' answers.
use Rattle.std.proofs.Common.{◌≡◌, ℕ, ◌<◌, refl, ap, subst, ◌∙◌, arith, List, length, to_z, of_z, w64}
use Rattle.std.proofs.lemmas.Int.{ints}
use Rattle.std.specs.Prelude.{Result, Ok, IsErrAnd, ℤ}
use Rattle.std.proofs.lemmas.Result.{err_from_is_err_and}
use Rattle.fz_ast.specs.Arena.{Grows}
use Rattle.fz_ast.specs.Limits.{IsNumber, TermLimits}
use Rattle.fz_ast.specs.Names.{name_of}
use Rattle.fz_ast.specs.Parts.{Parts}
use Rattle.fz_ast.specs.TermNodes.{term_at}
use Rattle.fz_ast.specs.Terms.{Term, span_of}
use Rattle.fz_ast.specs.TypeNodes.{type_at}
use Rattle.fz_ast.specs.Types.{Ty}
use Rattle.fz_ast.specs.declared.span.Span.{Span}
use Rattle.fz_ast.specs.declared.name.Name.{Name}
use Rattle.fz_ast.specs.declared.term.Arrow.{Arrow}
use Rattle.fz_ast.specs.declared.term.Arrow.TheVariants.{Fun, Fn}
use Rattle.fz_ast.specs.declared.term.Binary.{Binary}
use Rattle.fz_ast.specs.declared.term.Binary.TheVariants.{Pair, With, App, Plus, Minus, AtMost, Equal, Union, Map, Filter, Split}
use Rattle.fz_ast.specs.declared.term.Form.{Form}
use Rattle.fz_ast.specs.declared.term.Form.TheVariants.{Unary as Op, Binary as Op2, Ranged as Bounded, Inject, Lambda}
use Rattle.fz_ast.specs.declared.term.Ranged.{Ranged}
use Rattle.fz_ast.specs.declared.term.Ranged.TheVariants.{Sum, Clip}
use Rattle.fz_ast.specs.declared.term.Side.{Side}
use Rattle.fz_ast.specs.declared.term.Side.TheVariants.{Inl, Inr}
use Rattle.fz_ast.specs.declared.term.Unary.{Unary}
use Rattle.fz_ast.specs.declared.term.Unary.TheVariants.{Fst, Snd, Least, Greatest, Size}
use Rattle.linear_types.specs.Places.{AreAlike, distances}
use Rattle.linear_types.specs.Sensitivities.{Sensitivities}
use Rattle.linear_types.specs.Rule.{rule}
use Rattle.linear_types.specs.Typing.{Context, Under}
use Rattle.linear_types.specs.Inferred.{Inferred, Has, Untyped, one_part, two_parts, three_parts}
use Rattle.linear_types.specs.Groups.{unary_rule, binary_rule, ranged_rule, inject_rule, lambda_rule}
use Rattle.sensitivity_check.specs.Judging.{SayTwo, node_term}
use Rattle.typing_rows.specs.Says.{IsFaultOf, Says}
use Rattle.typing_rows.proofs.Answering.{fine_grows}
use Rattle.typing_rows.specs.declared.clause.Judged.{Judged}
use Rattle.typing_rows.specs.declared.clause.RowFault.{RowFault}
use Rattle.typing_rows.specs.declared.clause.RowFault.TheVariants.{Unbound, Mismatch, NotGround, NotFlat, TooSensitive, Range, NoMemory}
use Rattle.sensitivity_check.specs.declared.judge.Two.{Two}

-- the rule at a node, by its form
pub of_form : (Γ : Context) (t : Term) (N : Parts) (s : Span) (f g : Form) → t ≡ node_term N s f → f ≡ g → rule Γ t ≡ rule Γ (node_term N s g)
of_form Γ t N s f g e h = rw (e, h) refl

module _ (Γ : Context) (N : Parts) (s : Span) where
  pub rule_unary : (f : Unary) (e : ℕ) → rule Γ (node_term N s (Op f e)) ≡ one_part (rule Γ (term_at N.terms e)) (unary_rule f (span_of (term_at N.terms e)))
  rule_unary Fst e = refl
  rule_unary Snd e = refl
  rule_unary Least e = refl
  rule_unary Greatest e = refl
  rule_unary Size e = refl

  pub rule_binary : (f : Binary) (a b : ℕ)
      → rule Γ (node_term N s (Op2 f a b)) ≡ two_parts (rule Γ (term_at N.terms a)) (rule Γ (term_at N.terms b)) (binary_rule f s (span_of (term_at N.terms a)) (span_of (term_at N.terms b)))
  rule_binary Pair a b = refl
  rule_binary With a b = refl
  rule_binary App a b = refl
  rule_binary Plus a b = refl
  rule_binary Minus a b = refl
  rule_binary AtMost a b = refl
  rule_binary Equal a b = refl
  rule_binary Union a b = refl
  rule_binary Map a b = refl
  rule_binary Filter a b = refl
  rule_binary Split a b = refl

  pub rule_ranged : (f : Ranged) (lo hi : ℤ) (e : ℕ) → rule Γ (node_term N s (Bounded f lo hi e)) ≡ one_part (rule Γ (term_at N.terms e)) (ranged_rule f s (span_of (term_at N.terms e)) lo hi)
  rule_ranged Sum lo hi e = refl
  rule_ranged Clip lo hi e = refl

  pub rule_inject : (f : Side) (u : Span) (t e : ℕ)
      → rule Γ (node_term N s (Inject f u t e)) ≡ one_part (rule Γ (term_at N.terms e)) (inject_rule f u (type_at N.types t) (span_of (term_at N.terms e)))
  rule_inject Inl u t e = refl
  rule_inject Inr u t e = refl

  pub rule_lambda : (f : Arrow) (x : Name) (u : Span) (t e : ℕ)
      → rule Γ (node_term N s (Lambda f x u t e)) ≡ one_part (rule (Under (name_of x) (type_at N.types t) Γ) (term_at N.terms e)) (lambda_rule f s (name_of x) u (type_at N.types t))
  rule_lambda Fun x u t e = refl
  rule_lambda Fn x u t e = refl

-- the limits of a node's form
pub limits_of : (t : Term) (N : Parts) (s : Span) (f g : Form) → t ≡ node_term N s f → f ≡ g → TermLimits t → TermLimits (node_term N s g)
limits_of t N s f g e h l = subst TermLimits (e ∙ ap (node_term N s) h) l

pub range_limits : (N : Parts) (s : Span) (f : Ranged) (lo hi : ℤ) (e : ℕ) → TermLimits (node_term N s (Bounded f lo hi e)) → IsNumber lo × IsNumber hi
range_limits N s Sum lo hi e l = (l.0, l.1)
range_limits N s Clip lo hi e l = (l.0, l.1)

-- a number as the code holds it
pub held : (z : ℤ) → IsNumber z → to_z w64 (of_z w64 z) ≡ z
held z h = omega (arith, ints)

no_fine : (T : List Ty) (r : RowFault) (A : Ty) (D : Sensitivities) (v : Inferred) → IsFaultOf T r (Has A D) → IsFaultOf T r v
no_fine T NoMemory A D v h = tt
no_fine T (Unbound s) A D v h = absurd h
no_fine T (Mismatch s t w) A D v h = absurd h
no_fine T (NotGround s) A D v h = absurd h
no_fine T (NotFlat s) A D v h = absurd h
no_fine T (TooSensitive s x q) A D v h = absurd h
no_fine T (Range s) A D v h = absurd h

-- a part's fault is the whole's
pub one_fault : (T : List Ty) (r : RowFault) (v : Inferred) (k : Ty → Sensitivities → Inferred) → IsFaultOf T r v → IsFaultOf T r (one_part v k)
one_fault T r (Has A D) k h = no_fine T r A D (k A D) h
one_fault T r (Untyped f) k h = h

pub two_fault : (T : List Ty) (r : RowFault) (v w : Inferred) (k : Ty → Sensitivities → Ty → Sensitivities → Inferred) → IsFaultOf T r (two_parts v w (λ A D B E. Has B E)) → IsFaultOf T r (two_parts v w k)
two_fault T r (Has A D) (Has B E) k h = no_fine T r B E (k A D B E) h
two_fault T r (Has A D) (Untyped f) k h = h
two_fault T r (Untyped f) w k h = h

-- a part that is fine, and what the row says of it
pub one_says : (T U : List Ty) (o : Judged) (q : Result Judged RowFault) (v : Inferred) (k : Ty → Sensitivities → Inferred) → Says T (Ok o) v
    → ((D : Sensitivities) → AreAlike (distances o.amounts.items) D → Says U q (k (type_at T o.ty) D)) → Says U q (one_part v k)
one_says T U o q (Has A D) k h g = rw (← h.is) (g D h.alike)
one_says T U o q (Untyped f) k h g = absurd h

pub two_say : (T U : List Ty) (o p : Judged) (q : Result Judged RowFault) (v w : Inferred) (k : Ty → Sensitivities → Ty → Sensitivities → Inferred) → Says T (Ok o) v → Says T (Ok p) w
    → ((D E : Sensitivities) → AreAlike (distances o.amounts.items) D → AreAlike (distances p.amounts.items) E → Says U q (k (type_at T o.ty) D (type_at T p.ty) E)) → Says U q (two_parts v w k)
two_say T U o p q (Has A D) (Has B E) k h i g = rw (← h.is, ← i.is) (g D E h.alike i.alike)
two_say T U o p q (Untyped f) w k h i g = absurd h
two_say T U o p q (Has A D) (Untyped f) k h i g = absurd i

pub three_fault : (T : List Ty) (r : RowFault) (v w x : Inferred) (k : Ty → Sensitivities → Ty → Sensitivities → Ty → Sensitivities → Inferred) → IsFaultOf T r v → IsFaultOf T r (three_parts v w x k)
three_fault T r (Untyped f) w x k h = h
three_fault T r (Has A D) (Has B E) (Has C F) k h = no_fine T r A D (k A D B E C F) h
three_fault T r (Has A D) (Has B E) (Untyped f) k h = no_fine T r A D (Untyped f) h
three_fault T r (Has A D) (Untyped f) x k h = no_fine T r A D (Untyped f) h

pub later_fault : (T U : List Ty) (o : Judged) (r : RowFault) (v w x : Inferred) (k : Ty → Sensitivities → Ty → Sensitivities → Ty → Sensitivities → Inferred) → Says T (Ok o) v → IsFaultOf U r (two_parts w x (λ A D B E. Has B E)) → IsFaultOf U r (three_parts v w x k)
later_fault T U o r (Has A D) (Has B E) (Has C F) k g h = no_fine U r C F (k A D B E C F) h
later_fault T U o r (Has A D) (Has B E) (Untyped f) k g h = h
later_fault T U o r (Has A D) (Untyped f) x k g h = h
later_fault T U o r (Untyped f) w x k g h = absurd g

pub three_say : (T U : List Ty) (o p q : Judged) (z : Result Judged RowFault) (v w x : Inferred) (k : Ty → Sensitivities → Ty → Sensitivities → Ty → Sensitivities → Inferred) → Says T (Ok o) v → Says T (Ok p) w → Says T (Ok q) x
    → ((F D E : Sensitivities) → AreAlike (distances o.amounts.items) F → AreAlike (distances p.amounts.items) D → AreAlike (distances q.amounts.items) E → Says U z (k (type_at T o.ty) F (type_at T p.ty) D (type_at T q.ty) E)) → Says U z (three_parts v w x k)
three_say T U o p q z (Has A D) (Has B E) (Has C F) k h i j g = rw (← h.is, ← i.is, ← j.is) (g D E F h.alike i.alike j.alike)
three_say T U o p q z (Untyped f) w x k h i j g = absurd h
three_say T U o p q z (Has A D) (Untyped f) x k h i j g = absurd i
three_say T U o p q z (Has A D) (Has B E) (Untyped f) k h i j g = absurd j

-- the second part's fault after a first part that is fine
pub second_fault : (T U : List Ty) (o : Judged) (r : RowFault) (v w : Inferred) → Says T (Ok o) v → IsFaultOf U r w → IsFaultOf U r (two_parts v w (λ A D B E. Has B E))
second_fault T U o r (Has A D) (Has B E) g h = h
second_fault T U o r (Has A D) (Untyped f) g h = h
second_fault T U o r (Untyped f) w g h = absurd g

pub first_fault : (T : List Ty) (r : RowFault) (v w : Inferred) → IsFaultOf T r v → IsFaultOf T r (two_parts v w (λ A D B E. Has B E))
first_fault T r (Untyped f) w h = h
first_fault T r (Has A D) (Has B E) h = no_fine T r A D (Has B E) h
first_fault T r (Has A D) (Untyped f) h = no_fine T r A D (Untyped f) h

pub says_known : (T : List Ty) (o : Judged) (v : Inferred) → Says T (Ok o) v → o.ty < length T
says_known T o (Has A D) h = h.known
says_known T o (Untyped f) h = absurd h

pub says_grows : (T U : List Ty) (o : Judged) (v : Inferred) → Grows T U → Says T (Ok o) v → Says U (Ok o) v
says_grows T U o (Has A D) g h = fine_grows T U o A D g h
says_grows T U o (Untyped f) g h = absurd h

-- a `?` hands a fault on
pub passed : (T : List Ty) (q : Result Judged RowFault) (r : RowFault) (v : Inferred) → IsErrAnd q (λ y. y ≡ r) → IsFaultOf T r v → Says T q v
passed T q r v h k = let p = err_from_is_err_and q h in rw (p.1, p.2) k

pub passed_two : (T : List Ty) (q : Result Two RowFault) (r : RowFault) (v w : Inferred) → IsErrAnd q (λ y. y ≡ r) → IsFaultOf T r (two_parts v w (λ A D B E. Has B E)) → SayTwo T q v w
passed_two T q r v w h k = let p = err_from_is_err_and q h in rw (p.1, p.2) k

-- a part of a known type is known
pub known_part : (T : List Ty) (k : ℕ) (v : Inferred) (o : Judged) → Says T (Ok o) v → k < o.ty → k < length T
known_part T k v o h l = let m = says_known T o v h in omega arith
