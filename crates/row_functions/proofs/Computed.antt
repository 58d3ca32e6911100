-- Where the rules give a term a value, it is the one that is computed.
use Rattle.std.proofs.Common.{◌≡◌, ℕ, zero, suc, ℤ, List, [], ◌∷◌, refl, ap, sym, ◌∙◌, inl, inr}
use Rattle.std.specs.Prelude.{false, map, true}
use Rattle.fz_ast.specs.Terms.{AppE, BangE, CaseE, ClipE, EqE, FilterE, FnE, FstE, FunE, GreatestE, IfE, InlE, InrE, LeE, LeastE, LetBangE, LetE, LetPairE, MapE, MinusE, NumE, PairE, PlusE, SizeE, SndE, SplitE, SumE, Term, TermForm, TextE, TimesE, UnionE, UnitE, VarE, WithE, at}
use Rattle.metric_law.specs.Means.{Applies, Maps, Meaning, MeansIn, Rules, Splits, apply, apply_fn}
use Rattle.metric_values.specs.Values.{BagV, BangV, Bind, Env, Flat, InlV, InrV, NumF, NumV, PairV, TextV, UnitV, Value}
use Rattle.run_values.specs.Flats.{flat_of}
use Rattle.run_values.proofs.Bags.{flat_of_value}
use Rattle.row_functions.specs.Computed.{Computing, applied, chosen, computed, computed_form, flat_number, given, images, is_true, value_or_unit}

numbers_of : (zs : List ℤ) → map flat_number (map NumF zs) ≡ zs
numbers_of [] = refl
numbers_of (z ∷ zs) = ap (λ ws. z ∷ ws) (numbers_of zs)

module _ (R : Meaning) (C : Computing) (ih : (γ : Env) (e : Term) (v : Value) → R γ e v → v ≡ C γ e) where
  pub applies : {c u v : Value} → Applies R c u v → v ≡ applied C c u
  applies (apply h) = ih _ _ _ h
  applies (apply_fn h) = ih _ _ _ h

  applies_at : (c d u w v : Value) → c ≡ d → u ≡ w → Applies R c u v → v ≡ applied C d w
  applies_at c d u w v p q h = applies h ∙ (λ i. applied C (p i) (q i))

  pub maps_are : (c : Value) (xs ys : List Flat) → Maps R c xs ys → ys ≡ images C c xs
  maps_are c [] ys h = h
  maps_are c (x ∷ xs) ys h =
      let e : h.0 ≡ flat_of (given C c x) = sym (flat_of_value h.0) ∙ ap flat_of (applies h.2) in
      h.4 ∙ (λ i. e i ∷ maps_are c xs h.1 h.3 i)

  pub splits_are : (c : Value) (xs ys zs : List Flat) → Splits R c xs ys zs → (ys ≡ chosen C true c xs) × (zs ≡ chosen C false c xs)
  splits_are c [] ys zs h = h
  splits_are c (x ∷ xs) ys zs (inl h) =
      let t : true ≡ is_true (given C c x) = ap is_true (applies h.1) in
      let r = splits_are c xs h.0 zs h.2 in
      (rw (← t) (h.3 ∙ ap (λ us. x ∷ us) r.0), rw (← t) r.1)
  splits_are c (x ∷ xs) ys zs (inr h) =
      let t : false ≡ is_true (given C c x) = ap is_true (applies h.1) in
      let r = splits_are c xs ys h.0 h.2 in
      (rw (← t) r.0, rw (← t) (h.3 ∙ ap (λ us. x ∷ us) r.1))

  forms_are : (γ : Env) (f : TermForm) (v : Value) → Rules R γ f v → v ≡ computed_form C γ f
  forms_are γ (VarE x) v h = ap value_or_unit (sym h)
  forms_are γ (NumE z) v h = h
  forms_are γ (TextE s) v h = h
  forms_are γ UnitE v h = h
  forms_are γ (PairE a b) v h = rw (← ih γ a h.0 h.2, ← ih γ b h.1 h.3) h.4
  forms_are γ (WithE a b) v h = rw (← ih γ a h.0 h.2, ← ih γ b h.1 h.3) h.4
  forms_are γ (FstE e) v h = rw (← ih γ e (PairV v h.0) h.1) refl
  forms_are γ (SndE e) v h = rw (← ih γ e (PairV h.0 v) h.1) refl
  forms_are γ (LetPairE x y e b) v h = rw (← ih γ e (PairV h.0 h.1) h.2) (ih (Bind y h.1 (Bind x h.0 γ)) b v h.3)
  forms_are γ (InlE s t e) v h = rw (← ih γ e h.0 h.1) h.2
  forms_are γ (InrE s t e) v h = rw (← ih γ e h.0 h.1) h.2
  forms_are γ (CaseE e x a y b) v (inl h) = rw (← ih γ e (InlV h.0) h.1) (ih (Bind x h.0 γ) a v h.2)
  forms_are γ (CaseE e x a y b) v (inr h) = rw (← ih γ e (InrV h.0) h.1) (ih (Bind y h.0 γ) b v h.2)
  forms_are γ (IfE e a b) v (inl h) = rw (← ih γ e (InlV UnitV) h.0) (ih γ a v h.1)
  forms_are γ (IfE e a b) v (inr h) = rw (← ih γ e (InrV UnitV) h.0) (ih γ b v h.1)
  forms_are γ (FunE x s t e) v h = h
  forms_are γ (FnE x s t e) v h = h
  forms_are γ (AppE f a) v h = applies_at h.0 (C γ f) h.1 (C γ a) v (ih γ f h.0 h.2) (ih γ a h.1 h.3) h.4
  forms_are γ (BangE r e) v h = rw (← ih γ e h.0 h.1) h.2
  forms_are γ (LetBangE x e b) v h = rw (← ih γ e (BangV h.0) h.1) (ih (Bind x h.0 γ) b v h.2)
  forms_are γ (LetE x e b) v h = rw (← ih γ e h.0 h.1) (ih (Bind x h.0 γ) b v h.2)
  forms_are γ (PlusE a b) v h = rw (← ih γ a (NumV h.0) h.2, ← ih γ b (NumV h.1) h.3) h.4
  forms_are γ (MinusE a b) v h = rw (← ih γ a (NumV h.0) h.2, ← ih γ b (NumV h.1) h.3) h.4
  forms_are γ (TimesE k e) v h = rw (← ih γ e (NumV h.0) h.1) h.2
  forms_are γ (LeE a b) v h = rw (← ih γ a (NumV h.0) h.2, ← ih γ b (NumV h.1) h.3) h.4
  forms_are γ (EqE a b) v (inl h) = rw (← ih γ a (NumV h.0) h.2, ← ih γ b (NumV h.1) h.3) h.4
  forms_are γ (EqE a b) v (inr h) = rw (← ih γ a (TextV h.0) h.2, ← ih γ b (TextV h.1) h.3) h.4
  forms_are γ (ClipE lo hi e) v h = rw (← ih γ e (NumV h.0) h.1) h.2
  forms_are γ (LeastE e) v h = rw (← ih γ e (PairV (NumV h.0) (NumV h.1)) h.2) h.3
  forms_are γ (GreatestE e) v h = rw (← ih γ e (PairV (NumV h.0) (NumV h.1)) h.2) h.3
  forms_are γ (SizeE e) v h = rw (← ih γ e (BagV h.0) h.1) h.2
  forms_are γ (SumE lo hi e) v h = rw (← ih γ e (BagV (map NumF h.0)) h.1, numbers_of h.0) h.2
  forms_are γ (UnionE a b) v h = rw (← ih γ a (BagV h.0) h.2, ← ih γ b (BagV h.1) h.3) h.4
  forms_are γ (MapE f b) v h = rw (← ih γ f h.0 h.3, ← ih γ b (BagV h.1) h.4) (h.6 ∙ ap BagV (maps_are h.0 h.1 h.2 h.5))
  forms_are γ (FilterE f b) v h = rw (← ih γ f h.0 h.4, ← ih γ b (BagV h.1) h.5) (h.7 ∙ ap BagV (splits_are h.0 h.1 h.2 h.3 h.6).0)
  forms_are γ (SplitE f b) v h =
      let s = splits_are h.0 h.1 h.2 h.3 h.6 in rw (← ih γ f h.0 h.4, ← ih γ b (BagV h.1) h.5) (h.7 ∙ (λ i. PairV (BagV (s.0 i)) (BagV (s.1 i))))

pub means_computed : (n : ℕ) (γ : Env) (e : Term) (v : Value) → MeansIn n γ e v → v ≡ computed n γ e
unfolding computed
means_computed zero γ e v h = absurd h
means_computed (suc n) γ (at s f) v h = forms_are (MeansIn n) (computed n) (λ γ e v h. means_computed n γ e v h) γ f v h

-- what a function gives by the rules is what is computed
pub applies_computed : (n : ℕ) (c u v : Value) → Applies (MeansIn n) c u v → v ≡ applied (computed n) c u
applies_computed n c u v h = applies (MeansIn n) (computed n) (λ γ e v h. means_computed n γ e v h) h
