-- Numbers of nodes as the code holds them.
use Rattle.std.proofs.Common.{◌≡◌, ℕ, ap, subst, ◌∙◌, arith, ℤ, to_z, of_z, w64}
use Rattle.std.proofs.lemmas.Int.{ints}
use Rattle.fz_ast.specs.Limits.{IsNumber, TermLimits}
use Rattle.fz_ast.specs.Terms.{Term}
use Rattle.fz_ast.specs.TermNodes.{term_of}
use Rattle.fz_ast.specs.Types.{Ty}
use Rattle.fz_ast.specs.declared.span.Span.{Span}
use Rattle.fz_ast.specs.declared.term.Form.{Form}
use Rattle.fz_ast.specs.declared.term.Form.TheVariants.{Num, Times, Ranged as Bounded}
use Rattle.fz_ast.specs.declared.term.Ranged.{Ranged}
use Rattle.fz_ast.specs.declared.term.Ranged.TheVariants.{Sum, Clip}

held : (z : ℤ) → IsNumber z → to_z w64 (of_z w64 z) ≡ z
held z h = omega (arith, ints)

module _ (t : Term) (ty : ℕ → Ty) (part : ℕ → Term) (s : Span) (f : Form) (e : t ≡ term_of ty part s f) (l : TermLimits t) where
  pub num_held : (z : ℤ) → f ≡ Num z → to_z w64 (of_z w64 z) ≡ z
  num_held z h = held z (subst (λ (t : Term). TermLimits t) (e ∙ ap (term_of ty part s) h) l)

  pub times_held : (z : ℤ) (a : ℕ) → f ≡ Times z a → to_z w64 (of_z w64 z) ≡ z
  times_held z a h = let q = subst (λ (t : Term). TermLimits t) (e ∙ ap (term_of ty part s) h) l in held z q.0

  ranged_limits : (o : Ranged) (lo hi : ℤ) (a : ℕ) → TermLimits ((term_of ty part s (Bounded o lo hi a))) → IsNumber lo × IsNumber hi
  ranged_limits Sum lo hi a l = (l.0, l.1)
  ranged_limits Clip lo hi a l = (l.0, l.1)

  pub low_held : (o : Ranged) (lo hi : ℤ) (a : ℕ) → f ≡ Bounded o lo hi a → to_z w64 (of_z w64 lo) ≡ lo
  low_held o lo hi a h = let q = ranged_limits o lo hi a (subst (λ (t : Term). TermLimits t) (e ∙ ap (term_of ty part s) h) l) in held lo q.0

  pub high_held : (o : Ranged) (lo hi : ℤ) (a : ℕ) → f ≡ Bounded o lo hi a → to_z w64 (of_z w64 hi) ≡ hi
  high_held o lo hi a h = let q = ranged_limits o lo hi a (subst (λ (t : Term). TermLimits t) (e ∙ ap (term_of ty part s) h) l) in held hi q.1
