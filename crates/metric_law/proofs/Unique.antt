-- A term has at most one value.
use Rattle.std.proofs.Common.{inl, inr}
use Rattle.std.specs.Prelude.{List, [], suc, zero, ℕ, ◌∷◌, ◌≡◌}
use Rattle.fz_ast.specs.Terms.{AppE, BangE, CaseE, ClipE, EqE, FilterE, FnE, FstE, FunE, GreatestE, IfE, InlE, InrE, LeE, LeastE, LetBangE, LetE, LetPairE, MapE, MinusE, NumE, PairE, PlusE, SizeE, SndE, SplitE, SumE, Term, TermForm, TextE, TimesE, UnionE, UnitE, VarE, WithE, at}
use Rattle.metric_values.specs.Values.{Bind, Env, Flat, Value}
use Rattle.metric_law.proofs.Nearness.{numbers_inj, val_inj}
use Rattle.metric_law.specs.Means.{Applies, Maps, Meaning, MeansIn, Rules, Splits, apply, apply_fn}

module _ (R R' : Meaning) (ih : (γ : Env) (e : Term) (v w : Value) → R γ e v → R' γ e w → v ≡ w) where
  applies_same : {c u v w : Value} → Applies R c u v → Applies R' c u w → v ≡ w
  applies_same (apply h) (apply k) = ih _ _ _ _ h k
  applies_same (apply_fn h) (apply_fn k) = ih _ _ _ _ h k

  applies_at : (c c' u u' v w : Value) → c ≡ c' → u ≡ u' → Applies R c u v → Applies R' c' u' w → v ≡ w
  applies_at c c' u u' v w p q h k = applies_same h (rw (p, q) k)

  splits_same : (c : Value) (xs ys zs ys' zs' : List Flat) → Splits R c xs ys zs → Splits R' c xs ys' zs' → (ys ≡ ys') × (zs ≡ zs')
  splits_same c [] ys zs ys' zs' h k = (cc (h.0, k.0), cc (h.1, k.1))
  splits_same c (x ∷ xs) ys zs ys' zs' (inl h) (inl k) = let r = splits_same c xs h.0 zs k.0 zs' h.2 k.2 in (cc (r.0, h.3, k.3), r.1)
  splits_same c (x ∷ xs) ys zs ys' zs' (inr h) (inr k) = let r = splits_same c xs ys h.0 ys' k.0 h.2 k.2 in (r.0, cc (r.1, h.3, k.3))
  splits_same c (x ∷ xs) ys zs ys' zs' (inl h) (inr k) = let e = applies_same h.1 k.1 in absurd (cc e)
  splits_same c (x ∷ xs) ys zs ys' zs' (inr h) (inl k) = let e = applies_same h.1 k.1 in absurd (cc e)

  maps_same : (c : Value) (xs ys ys' : List Flat) → Maps R c xs ys → Maps R' c xs ys' → ys ≡ ys'
  maps_same c [] ys ys' h k = cc (h, k)
  maps_same c (x ∷ xs) ys ys' h k = let e = val_inj h.0 k.0 (applies_same h.2 k.2) in let r = maps_same c xs h.1 k.1 h.3 k.3 in cc (e, r, h.4, k.4)

  rules_same : (γ : Env) (e : TermForm) (v w : Value) → Rules R γ e v → Rules R' γ e w → v ≡ w
  rules_same γ (VarE x) v w h k = cc (h, k)
  rules_same γ (NumE z) v w h k = cc (h, k)
  rules_same γ (TextE s) v w h k = cc (h, k)
  rules_same γ UnitE v w h k = cc (h, k)
  rules_same γ (PlusE a b) v w h k = let p = ih γ a _ _ h.2 k.2 in let q = ih γ b _ _ h.3 k.3 in cc (p, q, h.4, k.4)
  rules_same γ (MinusE a b) v w h k = let p = ih γ a _ _ h.2 k.2 in let q = ih γ b _ _ h.3 k.3 in cc (p, q, h.4, k.4)
  rules_same γ (TimesE n e) v w h k = let p = ih γ e _ _ h.1 k.1 in cc (p, h.2, k.2)
  rules_same γ (ClipE lo hi e) v w h k = let p = ih γ e _ _ h.1 k.1 in cc (p, h.2, k.2)
  rules_same γ (LeastE e) v w h k = let p = ih γ e _ _ h.2 k.2 in cc (p, h.3, k.3)
  rules_same γ (GreatestE e) v w h k = let p = ih γ e _ _ h.2 k.2 in cc (p, h.3, k.3)
  rules_same γ (LeE a b) v w h k = let p = ih γ a _ _ h.2 k.2 in let q = ih γ b _ _ h.3 k.3 in cc (p, q, h.4, k.4)
  rules_same γ (EqE a b) v w (inl h) (inl k) = let p = ih γ a _ _ h.2 k.2 in let q = ih γ b _ _ h.3 k.3 in cc (p, q, h.4, k.4)
  rules_same γ (EqE a b) v w (inr h) (inr k) = let p = ih γ a _ _ h.2 k.2 in let q = ih γ b _ _ h.3 k.3 in cc (p, q, h.4, k.4)
  rules_same γ (EqE a b) v w (inl h) (inr k) = let p = ih γ a _ _ h.2 k.2 in absurd (cc p)
  rules_same γ (EqE a b) v w (inr h) (inl k) = let p = ih γ a _ _ h.2 k.2 in absurd (cc p)
  rules_same γ (WithE a b) v w h k = let p = ih γ a _ _ h.2 k.2 in let q = ih γ b _ _ h.3 k.3 in cc (p, q, h.4, k.4)
  rules_same γ (FstE e) v w h k = let p = ih γ e _ _ h.1 k.1 in cc p
  rules_same γ (SndE e) v w h k = let p = ih γ e _ _ h.1 k.1 in cc p
  rules_same γ (IfE e a b) v w (inl h) (inl k) = ih γ a v w h.1 k.1
  rules_same γ (IfE e a b) v w (inr h) (inr k) = ih γ b v w h.1 k.1
  rules_same γ (IfE e a b) v w (inl h) (inr k) = let p = ih γ e _ _ h.0 k.0 in absurd (cc p)
  rules_same γ (IfE e a b) v w (inr h) (inl k) = let p = ih γ e _ _ h.0 k.0 in absurd (cc p)
  rules_same γ (FnE x u t e) v w h k = cc (h, k)
  rules_same γ (LetE x e b) v w h k = let p = ih γ e _ _ h.1 k.1 in ih (Bind x h.0 γ) b v w h.2 (rw p k.2)
  rules_same γ (SumE lo hi e) v w h k = let p = numbers_inj h.0 k.0 (cc (ih γ e _ _ h.1 k.1)) in cc (p, h.2, k.2)
  rules_same γ (UnionE a b) v w h k = let p = ih γ a _ _ h.2 k.2 in let q = ih γ b _ _ h.3 k.3 in cc (p, q, h.4, k.4)
  rules_same γ (MapE f e) v w h k =
      let p = ih γ f _ _ h.3 k.3 in let q : h.1 ≡ k.1 = cc (ih γ e _ _ h.4 k.4) in
      let r = maps_same h.0 h.1 h.2 k.2 h.5 (rw (p, q) k.5) in cc (r, h.6, k.6)
  rules_same γ (SplitE f e) v w h k =
      let p = ih γ f _ _ h.4 k.4 in let q : h.1 ≡ k.1 = cc (ih γ e _ _ h.5 k.5) in
      let r = splits_same h.0 h.1 h.2 h.3 k.2 k.3 h.6 (rw (p, q) k.6) in cc (r.0, r.1, h.7, k.7)
  rules_same γ (FilterE f e) v w h k =
      let p = ih γ f _ _ h.4 k.4 in let q : h.1 ≡ k.1 = cc (ih γ e _ _ h.5 k.5) in
      let r = splits_same h.0 h.1 h.2 h.3 k.2 k.3 h.6 (rw (p, q) k.6) in cc (r.0, h.7, k.7)
  rules_same γ (PairE a b) v w h k = let p = ih γ a _ _ h.2 k.2 in let q = ih γ b _ _ h.3 k.3 in cc (p, q, h.4, k.4)
  rules_same γ (LetPairE x y e b) v w h k = let p : h.0 ≡ k.0 = cc (ih γ e _ _ h.2 k.2) in let q : h.1 ≡ k.1 = cc (ih γ e _ _ h.2 k.2) in ih (Bind y h.1 (Bind x h.0 γ)) b v w h.3 (rw (p, q) k.3)
  rules_same γ (InlE u t e) v w h k = let p = ih γ e _ _ h.1 k.1 in cc (p, h.2, k.2)
  rules_same γ (InrE u t e) v w h k = let p = ih γ e _ _ h.1 k.1 in cc (p, h.2, k.2)
  rules_same γ (CaseE e x a y b) v w (inl h) (inl k) = let p : h.0 ≡ k.0 = cc (ih γ e _ _ h.1 k.1) in ih (Bind x h.0 γ) a v w h.2 (rw p k.2)
  rules_same γ (CaseE e x a y b) v w (inr h) (inr k) = let p : h.0 ≡ k.0 = cc (ih γ e _ _ h.1 k.1) in ih (Bind y h.0 γ) b v w h.2 (rw p k.2)
  rules_same γ (CaseE e x a y b) v w (inl h) (inr k) = let p = ih γ e _ _ h.1 k.1 in absurd (cc p)
  rules_same γ (CaseE e x a y b) v w (inr h) (inl k) = let p = ih γ e _ _ h.1 k.1 in absurd (cc p)
  rules_same γ (FunE x u t e) v w h k = cc (h, k)
  rules_same γ (AppE f a) v w h k = applies_at h.0 k.0 h.1 k.1 v w (ih γ f _ _ h.2 k.2) (ih γ a _ _ h.3 k.3) h.4 k.4
  rules_same γ (BangE r e) v w h k = let p = ih γ e _ _ h.1 k.1 in cc (p, h.2, k.2)
  rules_same γ (LetBangE x e b) v w h k = let p : h.0 ≡ k.0 = cc (ih γ e _ _ h.1 k.1) in ih (Bind x h.0 γ) b v w h.2 (rw p k.2)
  rules_same γ (SizeE e) v w h k = let p = ih γ e _ _ h.1 k.1 in cc (p, h.2, k.2)

pub same_value : (n m : ℕ) (γ : Env) (e : Term) (v w : Value) → MeansIn n γ e v → MeansIn m γ e w → v ≡ w
same_value zero m γ e v w h k = absurd h
same_value (suc n) zero γ e v w h k = absurd k
same_value (suc n) (suc m) γ (at o e) v w h k = rules_same (MeansIn n) (MeansIn m) (λ γ e v w p q. same_value n m γ e v w p q) γ e v w h k
