-- Forms of two parts that have a value: words and signs, `==`, and pairs taken apart.
use Rattle.std.proofs.Common.{◌≡◌, ℕ, zero, suc, Bool, true, false, List, refl, ap, sym, subst, ◌∙◌, inl, inr}
use Rattle.std.specs.Bool.{Decides}
use Rattle.std.specs.Prelude.{bytes_eq}
use Rattle.std.proofs.lemmas.Slice.Eq.{bytes_eq-Decides}
use Rattle.fz_ast.specs.Bare.{nowhere}
use Rattle.fz_ast.specs.TermNodes.{binary}
use Rattle.fz_ast.specs.Terms.{EqE, LetPairE, Name, Term, TextE, at}
use Rattle.fz_ast.specs.declared.span.Span.{Span}
use Rattle.fz_ast.specs.declared.term.Binary.{Binary}
use Rattle.fz_ast.specs.declared.term.Binary.TheVariants.{Equal}
use Rattle.metric_law.proofs.Unique.{same_value}
use Rattle.metric_law.specs.Means.{MeansIn, Rules}
use Rattle.metric_values.specs.Distances.{same_number}
use Rattle.metric_values.specs.Values.{Bind, Env, PairV, TextV, Value, truth}
use Rattle.run_values.specs.Parts.{IsNum, IsPair, IsTextValue, first_in, number_in, second_in, text_in}
use Rattle.fuzz_eval.specs.Steps.{AreComparable, Can2, Gives2, HasFormWithin, HasValueWithin}
use Rattle.fuzz_eval.proofs.Steps.{binary_parts, binary_whole}

module _ (n : ℕ) (γ : Env) (o : Binary) (a b : Term) (k : HasFormWithin n γ (binary o a b)) where
  parts : (u w : Value) × MeansIn n γ a u × MeansIn n γ b w × Gives2 (MeansIn n) o u w k.value
  parts = binary_parts (MeansIn n) γ nowhere o a b k.value k.does

  pub first_has : HasValueWithin n γ a
  first_has = record { value = parts.0; does = parts.2 }

  pub second_has : HasValueWithin n γ b
  second_has = record { value = parts.1; does = parts.3 }

  pub binary_can : (u w : Value) → MeansIn n γ a u → MeansIn n γ b w → Can2 n o u w
  binary_can u w c d =
      let p = parts in
      record { value = k.value; gives = subst (λ (u : Value). Gives2 (MeansIn n) o u w k.value) (same_value _ _ _ _ _ _ p.2 c) (subst (λ (w : Value). Gives2 (MeansIn n) o p.0 w k.value) (same_value _ _ _ _ _ _ p.3 d) p.4) }

  pub binary_means : (u w : Value) → MeansIn n γ a u → MeansIn n γ b w → (v : Value) → Gives2 (MeansIn n) o u w v → Rules (MeansIn n) γ (binary o a b) v
  binary_means u w c d v g = binary_whole (MeansIn n) γ nowhere o a b u w v c d g

-- the form of a sign that is known
pub form_here : (n : ℕ) (γ : Env) (o p : Binary) (a b : Term) → o ≡ p → HasFormWithin n γ (binary o a b) → HasFormWithin n γ (binary p a b)
form_here n γ o p a b e k = subst (λ (o : Binary). HasFormWithin n γ (binary o a b)) e k

pub means_here : (n : ℕ) (γ : Env) (o p : Binary) (a b : Term) → o ≡ p → (v : Value) → Rules (MeansIn n) γ (binary p a b) v → Rules (MeansIn n) γ (binary o a b) v
means_here n γ o p a b e v r = subst (λ (o : Binary). Rules (MeansIn n) γ (binary o a b) v) (sym e) r

flipped : (xs ys : List ℕ) → bytes_eq xs ys ≡ bytes_eq ys xs
flipped xs ys = go (bytes_eq xs ys) (bytes_eq-Decides xs ys) (bytes_eq ys xs) (bytes_eq-Decides ys xs)
  where
    go : (a : Bool) → Decides a (xs ≡ ys) → (b : Bool) → Decides b (ys ≡ xs) → a ≡ b
    go true d true e = refl
    go true d false e = sym (e.1 (sym (d.0 refl)))
    go false d true e = d.1 (sym (e.0 refl))
    go false d false e = refl

-- a quoted text has no other value
quoted : (n : ℕ) (γ : Env) (s : Span) (q : List ℕ) (v : Value) → MeansIn n γ (at s (TextE q)) v → v ≡ TextV q
quoted zero γ s q v h = absurd h
quoted (suc n) γ s q v h = h

quoted_here : (n : ℕ) (γ : Env) (t : Term) (s : Span) (q : List ℕ) → t ≡ at s (TextE q) → HasValueWithin n γ t → MeansIn n γ t (TextV q)
quoted_here n γ t s q e k =
    subst (λ (v : Value). MeansIn n γ t v) (quoted n γ s q k.value (subst (λ (t : Term). MeansIn n γ t k.value) e k.does)) k.does

module _ (n : ℕ) (γ : Env) (a b : Term) (k : HasFormWithin n γ (EqE a b)) where
  pub left_has : HasValueWithin n γ a
  left_has = first_has n γ Equal a b k

  pub right_has : HasValueWithin n γ b
  right_has = second_has n γ Equal a b k

  pub can_compare : (u w : Value) → MeansIn n γ a u → MeansIn n γ b w → AreComparable u w
  can_compare u w c d = go k.does
    where
      go : Rules (MeansIn n) γ (EqE a b) k.value → AreComparable u w
      go (inl r) = inl (subst IsNum (same_value _ _ _ _ _ _ r.2 c) refl, subst IsNum (same_value _ _ _ _ _ _ r.3 d) refl)
      go (inr r) = inr (subst IsTextValue (same_value _ _ _ _ _ _ r.2 c) refl, subst IsTextValue (same_value _ _ _ _ _ _ r.3 d) refl)

  pub compared : (u w : Value) → MeansIn n γ a u → MeansIn n γ b w → (p : Bool)
      → (IsNum u → p ≡ same_number (number_in u) (number_in w)) → (IsTextValue u → p ≡ bytes_eq (text_in u) (text_in w))
      → (v : Value) → v ≡ truth p → Rules (MeansIn n) γ (EqE a b) v
  compared u w c d p f g v e = go (can_compare u w c d)
    where
      go : AreComparable u w → Rules (MeansIn n) γ (EqE a b) v
      go (inl r) = inl (number_in u, number_in w, subst (λ (u : Value). MeansIn n γ a u) r.0 c, subst (λ (w : Value). MeansIn n γ b w) r.1 d, e ∙ ap truth (f r.0))
      go (inr r) = inr (text_in u, text_in w, subst (λ (u : Value). MeansIn n γ a u) r.0 c, subst (λ (w : Value). MeansIn n γ b w) r.1 d, e ∙ ap truth (g r.0))

  -- beside a text that is quoted on the right
  module _ (s : Span) (q : List ℕ) (e : b ≡ at s (TextE q)) (u : Value) (c : MeansIn n γ a u) where
    pub left_text : IsTextValue u
    left_text = go (can_compare u (TextV q) c (quoted_here n γ b s q e right_has))
      where
        go : AreComparable u (TextV q) → IsTextValue u
        go (inl r) = absurd (cc r.1)
        go (inr r) = r.0

    pub left_compared : (p : Bool) → p ≡ bytes_eq (text_in u) q → (v : Value) → v ≡ truth p → Rules (MeansIn n) γ (EqE a b) v
    left_compared p h v g = compared u (TextV q) c (quoted_here n γ b s q e right_has) p (λ z. absurd (cc (z, left_text))) (λ z. h) v g

  -- and on the left
  module _ (s : Span) (q : List ℕ) (e : a ≡ at s (TextE q)) (w : Value) (d : MeansIn n γ b w) where
    pub right_text : IsTextValue w
    right_text = go (can_compare (TextV q) w (quoted_here n γ a s q e left_has) d)
      where
        go : AreComparable (TextV q) w → IsTextValue w
        go (inl r) = absurd (cc r.0)
        go (inr r) = r.1

    pub right_compared : (p : Bool) → p ≡ bytes_eq (text_in w) q → (v : Value) → v ≡ truth p → Rules (MeansIn n) γ (EqE a b) v
    right_compared p h v g = compared (TextV q) w (quoted_here n γ a s q e left_has) d p (λ z. absurd (cc z)) (λ z. h ∙ flipped (text_in w) q) v g

-- `let (x, y) = e in b`
module _ (n : ℕ) (γ : Env) (x y : Name) (e b : Term) (k : HasFormWithin n γ (LetPairE x y e b)) where
  pub pair_has : HasValueWithin n γ e
  pair_has = let r = k.does in record { value = PairV r.0 r.1; does = r.2 }

  module _ (u : Value) (d : MeansIn n γ e u) where
    pub pair_can : IsPair u
    pair_can = let r = k.does in subst IsPair (same_value _ _ _ _ _ _ r.2 d) refl

    -- inside both names
    module _ (δ : Env) (j : δ ≡ Bind y (second_in u) (Bind x (first_in u) γ)) where
      pub pair_inside : HasValueWithin n δ b
      pair_inside =
          let r = k.does in
          let e : PairV r.0 r.1 ≡ u = same_value _ _ _ _ _ _ r.2 d in
          record { value = k.value; does = subst (λ (δ : Env). MeansIn n δ b k.value) (ap (λ (u : Value). Bind y (second_in u) (Bind x (first_in u) γ)) e ∙ sym j) r.3 }

      pub pair_means : (v : Value) → MeansIn n δ b v → Rules (MeansIn n) γ (LetPairE x y e b) v
      pair_means v g = (first_in u, second_in u, subst (λ (u : Value). MeansIn n γ e u) pair_can d, subst (λ (δ : Env). MeansIn n δ b v) j g)
