-- A node's value, from those of its parts, and the other way round.
use Rattle.std.proofs.Common.{◌≡◌, ℕ, zero, suc, ◌-◌, ◌<◌, refl, ap, sym, subst, ◌∙◌, arith, inl, inr}
use Rattle.fz_ast.specs.declared.span.Span.{Span}
use Rattle.fz_ast.specs.Terms.{Term, TermForm, at}
use Rattle.fz_ast.specs.TermNodes.{binary, form_of, term_of, unary}
use Rattle.fz_ast.specs.Types.{Ty}
use Rattle.fz_ast.specs.declared.term.Binary.{Binary}
use Rattle.fz_ast.specs.declared.term.Binary.TheVariants.{Pair, With, App, Plus, Minus, AtMost, Equal, Union, Map, Filter, Split}
use Rattle.fz_ast.specs.declared.term.Form.{Form}
use Rattle.fz_ast.specs.declared.term.Unary.{Unary}
use Rattle.fz_ast.specs.declared.term.Unary.TheVariants.{Fst, Snd, Least, Greatest, Size}
use Rattle.metric_law.specs.Means.{Meaning, MeansIn, Rules}
use Rattle.metric_values.specs.Values.{Env, NumV, PairV, Value}
use Rattle.fuzz_eval.specs.Steps.{Gives1, Gives2, HasValueWithin}

-- a term's form
abbrev pub form_in : Term → TermForm
form_in (at s f) = f

down : (n : ℕ) (γ : Env) (e : Term) (v : Value) → MeansIn n γ e v → (0 < n) × Rules (MeansIn (n - 1)) γ (form_in e) v
down zero γ e v h = absurd h
down (suc n) γ (at s f) v h = let k : suc n - 1 ≡ n = omega arith in (omega arith, subst (λ (m : ℕ). Rules (MeansIn m) γ f v) (sym k) h)

up : (n : ℕ) (γ : Env) (e : Term) (v : Value) → 0 < n → Rules (MeansIn (n - 1)) γ (form_in e) v → MeansIn n γ e v
up zero γ e v l h = absurd (omega arith)
up (suc n) γ (at s f) v l h = let k : suc n - 1 ≡ n = omega arith in subst (λ (m : ℕ). Rules (MeansIn m) γ f v) k h

pub above : {n : ℕ} {γ : Env} {t : Term} → HasValueWithin n γ t → 0 < n
above {n} {γ} {t} h = (down n γ t h.value h.does).0

-- a node, by its form
module _ (n : ℕ) (γ : Env) (t : Term) (ty : ℕ → Ty) (part : ℕ → Term) (s : Span) (f g : Form) (e : t ≡ term_of ty part s f) (h : f ≡ g) where
  term_is : t ≡ (term_of ty part s g)
  term_is = e ∙ ap (term_of ty part s) h

  pub rules : (k : HasValueWithin n γ t) → Rules (MeansIn (n - 1)) γ (form_of ty part g) k.value
  rules k = (down n γ (term_of ty part s g) k.value (subst (λ (e : Term). MeansIn n γ e k.value) term_is k.does)).1

  pub means : HasValueWithin n γ t → (v : Value) → Rules (MeansIn (n - 1)) γ (form_of ty part g) v → MeansIn n γ t v
  means k v r = subst (λ (e : Term). MeansIn n γ e v) (sym term_is) (up n γ (term_of ty part s g) v (above k) r)

module _ (R : Meaning) (γ : Env) (s : Span) where
  pub unary_parts : (o : Unary) (e : Term) (v : Value) → Rules R γ (unary o e) v → (u : Value) × R γ e u × Gives1 o u v
  unary_parts Fst e v h = (PairV v h.0, h.1, (h.0, refl))
  unary_parts Snd e v h = (PairV h.0 v, h.1, (h.0, refl))
  unary_parts Least e v h = (PairV (NumV h.0) (NumV h.1), h.2, (h.0, h.1, refl, h.3))
  unary_parts Greatest e v h = (PairV (NumV h.0) (NumV h.1), h.2, (h.0, h.1, refl, h.3))
  unary_parts Size e v h = (_, h.1, (h.0, refl, h.2))

  pub unary_whole : (o : Unary) (e : Term) (u v : Value) → R γ e u → Gives1 o u v → Rules R γ (unary o e) v
  unary_whole Fst e u v r g = (g.0, subst (λ (u : Value). R γ e u) g.1 r)
  unary_whole Snd e u v r g = (g.0, subst (λ (u : Value). R γ e u) g.1 r)
  unary_whole Least e u v r g = (g.0, g.1, subst (λ (u : Value). R γ e u) g.2 r, g.3)
  unary_whole Greatest e u v r g = (g.0, g.1, subst (λ (u : Value). R γ e u) g.2 r, g.3)
  unary_whole Size e u v r g = (g.0, subst (λ (u : Value). R γ e u) g.1 r, g.2)

  pub binary_parts : (o : Binary) (a b : Term) (v : Value) → Rules R γ (binary o a b) v → (u w : Value) × R γ a u × R γ b w × Gives2 R o u w v
  binary_parts Pair a b v h = h
  binary_parts With a b v h = h
  binary_parts App a b v h = h
  binary_parts Plus a b v h = (NumV h.0, NumV h.1, h.2, h.3, (h.0, h.1, refl, refl, h.4))
  binary_parts Minus a b v h = (NumV h.0, NumV h.1, h.2, h.3, (h.0, h.1, refl, refl, h.4))
  binary_parts AtMost a b v h = (NumV h.0, NumV h.1, h.2, h.3, (h.0, h.1, refl, refl, h.4))
  binary_parts Equal a b v (inl h) = (NumV h.0, NumV h.1, h.2, h.3, inl (h.0, h.1, refl, refl, h.4))
  binary_parts Equal a b v (inr h) = (_, _, h.2, h.3, inr (h.0, h.1, refl, refl, h.4))
  binary_parts Union a b v h = (_, _, h.2, h.3, (h.0, h.1, refl, refl, h.4))
  binary_parts Map a b v h = (h.0, _, h.3, h.4, (h.1, h.2, refl, h.5, h.6))
  binary_parts Filter a b v h = (h.0, _, h.4, h.5, (h.1, h.2, h.3, refl, h.6, h.7))
  binary_parts Split a b v h = (h.0, _, h.4, h.5, (h.1, h.2, h.3, refl, h.6, h.7))

  pub binary_whole : (o : Binary) (a b : Term) (u w v : Value) → R γ a u → R γ b w → Gives2 R o u w v → Rules R γ (binary o a b) v
  binary_whole Pair a b u w v p q g = (u, w, p, q, g)
  binary_whole With a b u w v p q g = (u, w, p, q, g)
  binary_whole App a b u w v p q g = (u, w, p, q, g)
  binary_whole Plus a b u w v p q g = (g.0, g.1, subst (λ (u : Value). R γ a u) g.2 p, subst (λ (w : Value). R γ b w) g.3 q, g.4)
  binary_whole Minus a b u w v p q g = (g.0, g.1, subst (λ (u : Value). R γ a u) g.2 p, subst (λ (w : Value). R γ b w) g.3 q, g.4)
  binary_whole AtMost a b u w v p q g = (g.0, g.1, subst (λ (u : Value). R γ a u) g.2 p, subst (λ (w : Value). R γ b w) g.3 q, g.4)
  binary_whole Equal a b u w v p q (inl g) = inl (g.0, g.1, subst (λ (u : Value). R γ a u) g.2 p, subst (λ (w : Value). R γ b w) g.3 q, g.4)
  binary_whole Equal a b u w v p q (inr g) = inr (g.0, g.1, subst (λ (u : Value). R γ a u) g.2 p, subst (λ (w : Value). R γ b w) g.3 q, g.4)
  binary_whole Union a b u w v p q g = (g.0, g.1, subst (λ (u : Value). R γ a u) g.2 p, subst (λ (w : Value). R γ b w) g.3 q, g.4)
  binary_whole Map a b u w v p q g = (u, g.0, g.1, p, subst (λ (w : Value). R γ b w) g.2 q, g.3, g.4)
  binary_whole Filter a b u w v p q g = (u, g.0, g.1, g.2, p, subst (λ (w : Value). R γ b w) g.3 q, g.4, g.5)
  binary_whole Split a b u w v p q g = (u, g.0, g.1, g.2, p, subst (λ (w : Value). R γ b w) g.3 q, g.4, g.5)
