-- A term's values without spans are those of the term without spans.
use Rattle.std.proofs.Common.{ap, inl, inr, refl, subst, sym, ◌∙◌}
use Rattle.std.specs.Prelude.{Bool, List, Option, Some, [], bytes_eq, cond, false, int_le, suc, true, zero, ℕ, ℤ, ◌∷◌, ◌≡◌}
use Rattle.fz_ast.specs.Bare.{bare}
use Rattle.fz_ast.specs.Signature.{Signature}
use Rattle.fz_ast.specs.Terms.{AppE, BangE, CaseE, ClipE, EqE, FilterE, FnE, FstE, FunE, GreatestE, IfE, InlE, InrE, LeE, LeastE, LetBangE, LetE, LetPairE, MapE, MinusE, Name, NumE, PairE, PlusE, SizeE, SndE, SplitE, SumE, Term, TextE, TimesE, UnionE, UnitE, VarE, WithE, at}
use Rattle.metric_values.specs.Distances.{same_number}
use Rattle.metric_values.specs.Tables.{Dataset, rows_of}
use Rattle.metric_values.specs.Values.{BagV, BangF, BangV, Bind, Empty, Env, Flat, FnV, FunV, InlF, InlV, InrF, InrV, NumF, NumV, PairF, PairV, TextF, TextV, UnitF, UnitV, Value, truth, value_of}
use Rattle.metric_law.specs.Blanks.{bare_env, bare_value}
use Rattle.metric_law.specs.Means.{Applies, Maps, MeansIn, Splits, apply, apply_fn, find}

flat_is_bare : (x : Flat) → bare_value (value_of x) ≡ value_of x
flat_is_bare (NumF z) = refl
flat_is_bare (TextF s) = refl
flat_is_bare UnitF = refl
flat_is_bare (PairF a b) = let p = flat_is_bare a in let q = flat_is_bare b in cc (p, q)
flat_is_bare (InlF a) = ap InlV (flat_is_bare a)
flat_is_bare (InrF a) = ap InrV (flat_is_bare a)
flat_is_bare (BangF a) = ap BangV (flat_is_bare a)

truth_is_bare : (b : Bool) → bare_value (truth b) ≡ truth b
truth_is_bare true = refl
truth_is_bare false = refl

pub rows_are_bare : (ts : Signature) (X : Dataset) → bare_env (rows_of ts X) ≡ rows_of ts X
rows_are_bare [] X = refl
rows_are_bare (t ∷ ts) [] = refl
rows_are_bare (t ∷ ts) (xs ∷ X) = ap (Bind t.name (BagV xs)) (rows_are_bare ts X)

-- spans forgotten

one_forget : (u v : Value) (b : Bool) (f g : Option Value) → (f ≡ Some v → g ≡ Some (bare_value v)) → cond b (Some u) f ≡ Some v → cond b (Some (bare_value u)) g ≡ Some (bare_value v)
one_forget u v true f g more k = let e : u ≡ v = cc k in ap (λ w. Some (bare_value w)) e
one_forget u v false f g more k = more k

find_forget : (γ : Env) (x : Name) (v : Value) → find γ x ≡ Some v → find (bare_env γ) x ≡ Some (bare_value v)
find_forget Empty x v h = cc h
find_forget (Bind y u γ) x v h = one_forget u v (bytes_eq y x) (find γ x) (find (bare_env γ) x) (find_forget γ x v) h

module _ (n : ℕ) (up : (γ : Env) (e : Term) (v : Value) → MeansIn n γ e v → MeansIn n (bare_env γ) (bare e) (bare_value v)) where
  applies_forget : {c u v : Value} → Applies (MeansIn n) c u v → Applies (MeansIn n) (bare_value c) (bare_value u) (bare_value v)
  applies_forget (apply h) = apply (up _ _ _ h)
  applies_forget (apply_fn h) = apply_fn (up _ _ _ h)

  element_forget : (c : Value) (x : Flat) (v w : Value) → bare_value v ≡ w → Applies (MeansIn n) c (BangV (value_of x)) v → Applies (MeansIn n) (bare_value c) (BangV (value_of x)) w
  element_forget c x v w e h = subst (λ y. Applies (MeansIn n) (bare_value c) (BangV y) w) (flat_is_bare x) (subst (λ y. Applies (MeansIn n) (bare_value c) (BangV (bare_value (value_of x))) y) e (applies_forget h))

  splits_forget : (c : Value) (xs ys zs : List Flat) → Splits (MeansIn n) c xs ys zs → Splits (MeansIn n) (bare_value c) xs ys zs
  splits_forget c [] ys zs h = h
  splits_forget c (x ∷ xs) ys zs (inl h) = inl (h.0, element_forget c x _ _ refl h.1, splits_forget c xs h.0 zs h.2, h.3)
  splits_forget c (x ∷ xs) ys zs (inr h) = inr (h.0, element_forget c x _ _ refl h.1, splits_forget c xs ys h.0 h.2, h.3)

  maps_forget : (c : Value) (xs ys : List Flat) → Maps (MeansIn n) c xs ys → Maps (MeansIn n) (bare_value c) xs ys
  maps_forget c [] ys h = h
  maps_forget c (x ∷ xs) ys h = (h.0, h.1, element_forget c x _ _ (flat_is_bare h.0) h.2, maps_forget c xs h.1 h.3, h.4)

pub forget : (n : ℕ) (γ : Env) (e : Term) (v : Value) → MeansIn n γ e v → MeansIn n (bare_env γ) (bare e) (bare_value v)
forget zero γ e v h = absurd h
forget (suc n) γ (at s (VarE x)) v h = find_forget γ x v h
forget (suc n) γ (at s (NumE z)) v h = ap bare_value h
forget (suc n) γ (at s (TextE t)) v h = ap bare_value h
forget (suc n) γ (at s UnitE) v h = ap bare_value h
forget (suc n) γ (at s (PairE a b)) v h = (bare_value h.0, bare_value h.1, forget n γ a h.0 h.2, forget n γ b h.1 h.3, ap bare_value h.4)
forget (suc n) γ (at s (WithE a b)) v h = (bare_value h.0, bare_value h.1, forget n γ a h.0 h.2, forget n γ b h.1 h.3, ap bare_value h.4)
forget (suc n) γ (at s (FstE e)) v h = (bare_value h.0, forget n γ e (PairV v h.0) h.1)
forget (suc n) γ (at s (SndE e)) v h = (bare_value h.0, forget n γ e (PairV h.0 v) h.1)
forget (suc n) γ (at s (LetPairE x y e b)) v h = (bare_value h.0, bare_value h.1, forget n γ e (PairV h.0 h.1) h.2, forget n (Bind y h.1 (Bind x h.0 γ)) b v h.3)
forget (suc n) γ (at s (InlE u t e)) v h = (bare_value h.0, forget n γ e h.0 h.1, ap bare_value h.2)
forget (suc n) γ (at s (InrE u t e)) v h = (bare_value h.0, forget n γ e h.0 h.1, ap bare_value h.2)
forget (suc n) γ (at s (CaseE e x a y b)) v (inl h) = inl (bare_value h.0, forget n γ e (InlV h.0) h.1, forget n (Bind x h.0 γ) a v h.2)
forget (suc n) γ (at s (CaseE e x a y b)) v (inr h) = inr (bare_value h.0, forget n γ e (InrV h.0) h.1, forget n (Bind y h.0 γ) b v h.2)
forget (suc n) γ (at s (IfE e a b)) v (inl h) = inl (forget n γ e (InlV UnitV) h.0, forget n γ a v h.1)
forget (suc n) γ (at s (IfE e a b)) v (inr h) = inr (forget n γ e (InrV UnitV) h.0, forget n γ b v h.1)
forget (suc n) γ (at s (FunE x u t e)) v h = ap bare_value h
forget (suc n) γ (at s (FnE x u t e)) v h = ap bare_value h
forget (suc n) γ (at s (AppE f a)) v h = (bare_value h.0, bare_value h.1, forget n γ f h.0 h.2, forget n γ a h.1 h.3, applies_forget n (forget n) h.4)
forget (suc n) γ (at s (BangE r e)) v h = (bare_value h.0, forget n γ e h.0 h.1, ap bare_value h.2)
forget (suc n) γ (at s (LetBangE x e b)) v h = (bare_value h.0, forget n γ e (BangV h.0) h.1, forget n (Bind x h.0 γ) b v h.2)
forget (suc n) γ (at s (LetE x e b)) v h = (bare_value h.0, forget n γ e h.0 h.1, forget n (Bind x h.0 γ) b v h.2)
forget (suc n) γ (at s (PlusE a b)) v h = (h.0, h.1, forget n γ a (NumV h.0) h.2, forget n γ b (NumV h.1) h.3, ap bare_value h.4)
forget (suc n) γ (at s (MinusE a b)) v h = (h.0, h.1, forget n γ a (NumV h.0) h.2, forget n γ b (NumV h.1) h.3, ap bare_value h.4)
forget (suc n) γ (at s (TimesE k e)) v h = (h.0, forget n γ e (NumV h.0) h.1, ap bare_value h.2)
forget (suc n) γ (at s (LeE a b)) v h = (h.0, h.1, forget n γ a (NumV h.0) h.2, forget n γ b (NumV h.1) h.3, ap bare_value h.4 ∙ truth_is_bare (int_le h.0 h.1))
forget (suc n) γ (at s (EqE a b)) v (inl h) = inl (h.0, h.1, forget n γ a (NumV h.0) h.2, forget n γ b (NumV h.1) h.3, ap bare_value h.4 ∙ truth_is_bare (same_number h.0 h.1))
forget (suc n) γ (at s (EqE a b)) v (inr h) = inr (h.0, h.1, forget n γ a (TextV h.0) h.2, forget n γ b (TextV h.1) h.3, ap bare_value h.4 ∙ truth_is_bare (bytes_eq h.0 h.1))
forget (suc n) γ (at s (ClipE lo hi e)) v h = (h.0, forget n γ e (NumV h.0) h.1, ap bare_value h.2)
forget (suc n) γ (at s (LeastE e)) v h = (h.0, h.1, forget n γ e (PairV (NumV h.0) (NumV h.1)) h.2, ap bare_value h.3)
forget (suc n) γ (at s (GreatestE e)) v h = (h.0, h.1, forget n γ e (PairV (NumV h.0) (NumV h.1)) h.2, ap bare_value h.3)
forget (suc n) γ (at s (SizeE e)) v h = (h.0, forget n γ e (BagV h.0) h.1, ap bare_value h.2)
forget (suc n) γ (at s (SumE lo hi e)) v h = (h.0, forget n γ e _ h.1, ap bare_value h.2)
forget (suc n) γ (at s (UnionE a b)) v h = (h.0, h.1, forget n γ a (BagV h.0) h.2, forget n γ b (BagV h.1) h.3, ap bare_value h.4)
forget (suc n) γ (at s (MapE f b)) v h = (bare_value h.0, h.1, h.2, forget n γ f h.0 h.3, forget n γ b (BagV h.1) h.4, maps_forget n (forget n) h.0 h.1 h.2 h.5, ap bare_value h.6)
forget (suc n) γ (at s (FilterE f b)) v h =
    (bare_value h.0, h.1, h.2, h.3, forget n γ f h.0 h.4, forget n γ b (BagV h.1) h.5, splits_forget n (forget n) h.0 h.1 h.2 h.3 h.6, ap bare_value h.7)
forget (suc n) γ (at s (SplitE f b)) v h =
    (bare_value h.0, h.1, h.2, h.3, forget n γ f h.0 h.4, forget n γ b (BagV h.1) h.5, splits_forget n (forget n) h.0 h.1 h.2 h.3 h.6, ap bare_value h.7)

-- and found again

-- some value of which w is what is left without spans
abbrev pub Bared : (Value → Type 0) → Value → Type 0
Bared P w = (v : Value) × P v × (bare_value v ≡ w)

num_back : (v : Value) (z : ℤ) → bare_value v ≡ NumV z → v ≡ NumV z
num_back (NumV y) z h = h
num_back v z h = cc h

text_back : (v : Value) (s : List ℕ) → bare_value v ≡ TextV s → v ≡ TextV s
text_back (TextV t) s h = h
text_back v s h = cc h

unit_back : (v : Value) → bare_value v ≡ UnitV → v ≡ UnitV
unit_back UnitV h = refl
unit_back v h = cc h

bag_back : (v : Value) (xs : List Flat) → bare_value v ≡ BagV xs → v ≡ BagV xs
bag_back (BagV ys) xs h = h
bag_back v xs h = cc h

pair_back : (v a b : Value) → bare_value v ≡ PairV a b → (u w : Value) × (v ≡ PairV u w) × (bare_value u ≡ a) × (bare_value w ≡ b)
pair_back (PairV u w) a b h = (u, w, refl, cc h, cc h)
pair_back v a b h = cc h

inl_back : (v a : Value) → bare_value v ≡ InlV a → (u : Value) × (v ≡ InlV u) × (bare_value u ≡ a)
inl_back (InlV u) a h = (u, refl, cc h)
inl_back v a h = cc h

inr_back : (v a : Value) → bare_value v ≡ InrV a → (u : Value) × (v ≡ InrV u) × (bare_value u ≡ a)
inr_back (InrV u) a h = (u, refl, cc h)
inr_back v a h = cc h

bang_back : (v a : Value) → bare_value v ≡ BangV a → (u : Value) × (v ≡ BangV u) × (bare_value u ≡ a)
bang_back (BangV u) a h = (u, refl, cc h)
bang_back v a h = cc h

flat_back : (y : Flat) (v : Value) → bare_value v ≡ value_of y → v ≡ value_of y
flat_back (NumF z) v h = num_back v z h
flat_back (TextF s) v h = text_back v s h
flat_back UnitF v h = unit_back v h
flat_back (PairF a b) v h = let r = pair_back v (value_of a) (value_of b) h in let p = flat_back a r.0 r.3 in let q = flat_back b r.1 r.4 in r.2 ∙ cc (p, q)
flat_back (InlF a) v h = let r = inl_back v (value_of a) h in r.1 ∙ ap InlV (flat_back a r.0 r.2)
flat_back (InrF a) v h = let r = inr_back v (value_of a) h in r.1 ∙ ap InrV (flat_back a r.0 r.2)
flat_back (BangF a) v h = let r = bang_back v (value_of a) h in r.1 ∙ ap BangV (flat_back a r.0 r.2)

as_num : (P : Value → Type 0) (z : ℤ) → Bared P (NumV z) → P (NumV z)
as_num P z r = subst P (num_back r.0 z r.2) r.1

as_text : (P : Value → Type 0) (s : List ℕ) → Bared P (TextV s) → P (TextV s)
as_text P s r = subst P (text_back r.0 s r.2) r.1

as_bag : (P : Value → Type 0) (xs : List Flat) → Bared P (BagV xs) → P (BagV xs)
as_bag P xs r = subst P (bag_back r.0 xs r.2) r.1

as_flat : (P : Value → Type 0) (y : Flat) → Bared P (value_of y) → P (value_of y)
as_flat P y r = subst P (flat_back y r.0 r.2) r.1

as_pair : (P : Value → Type 0) (a b : Value) → Bared P (PairV a b) → (u w : Value) × P (PairV u w) × (bare_value u ≡ a) × (bare_value w ≡ b)
as_pair P a b r = let q = pair_back r.0 a b r.2 in (q.0, q.1, subst P q.2 r.1, q.3, q.4)

as_inl : (P : Value → Type 0) (a : Value) → Bared P (InlV a) → (u : Value) × P (InlV u) × (bare_value u ≡ a)
as_inl P a r = let q = inl_back r.0 a r.2 in (q.0, subst P q.1 r.1, q.2)

as_inr : (P : Value → Type 0) (a : Value) → Bared P (InrV a) → (u : Value) × P (InrV u) × (bare_value u ≡ a)
as_inr P a r = let q = inr_back r.0 a r.2 in (q.0, subst P q.1 r.1, q.2)

as_bang : (P : Value → Type 0) (a : Value) → Bared P (BangV a) → (u : Value) × P (BangV u) × (bare_value u ≡ a)
as_bang P a r = let q = bang_back r.0 a r.2 in (q.0, subst P q.1 r.1, q.2)

as_nums : (P : Value → Type 0) (y z : ℤ) → Bared P (PairV (NumV y) (NumV z)) → P (PairV (NumV y) (NumV z))
as_nums P y z r = as_flat P (PairF (NumF y) (NumF z)) r

one_recall : (u w : Value) (b : Bool) (f g : Option Value) → (g ≡ Some w → Bared (λ v. f ≡ Some v) w) → cond b (Some (bare_value u)) g ≡ Some w → Bared (λ v. cond b (Some u) f ≡ Some v) w
one_recall u w true f g more k = (u, refl, cc k)
one_recall u w false f g more k = more k

find_recall : (γ : Env) (x : Name) (w : Value) → find (bare_env γ) x ≡ Some w → Bared (λ v. find γ x ≡ Some v) w
find_recall Empty x w h = cc h
find_recall (Bind y u γ) x w h = one_recall u w (bytes_eq y x) (find γ x) (find (bare_env γ) x) (find_recall γ x w) h

module _ (n : ℕ) (down : (γ : Env) (e : Term) (w : Value) → MeansIn n (bare_env γ) (bare e) w → Bared (MeansIn n γ e) w) where
  applies_recall : (c u w : Value) → Applies (MeansIn n) (bare_value c) (bare_value u) w → Bared (Applies (MeansIn n) c u) w
  applies_recall (FunV x e γ) u w (apply h) = let r = down (Bind x u γ) e w h in (r.0, apply r.1, r.2)
  applies_recall (FnV x e γ) (BangV u) w (apply_fn h) = let r = down (Bind x u γ) e w h in (r.0, apply_fn r.1, r.2)
  applies_recall c u w h = elim h [ ]

  -- the function and the argument are what is left of c and u
  applies_at : (c c' u u' w : Value) → bare_value c ≡ c' → bare_value u ≡ u' → Applies (MeansIn n) c' u' w → Bared (Applies (MeansIn n) c u) w
  applies_at c c' u u' w p q h = applies_recall c u w (rw (p, q) h)

  element_recall : (c c' : Value) (x y : Flat) → bare_value c ≡ c' → Applies (MeansIn n) c' (BangV (value_of x)) (value_of y) → Applies (MeansIn n) c (BangV (value_of x)) (value_of y)
  element_recall c c' x y p h = as_flat (Applies (MeansIn n) c (BangV (value_of x))) y (applies_at c c' (BangV (value_of x)) (BangV (value_of x)) (value_of y) p (ap BangV (flat_is_bare x)) h)

  splits_recall : (c c' : Value) (xs ys zs : List Flat) → bare_value c ≡ c' → Splits (MeansIn n) c' xs ys zs → Splits (MeansIn n) c xs ys zs
  splits_recall c c' [] ys zs p h = h
  splits_recall c c' (x ∷ xs) ys zs p (inl h) = inl (h.0, element_recall c c' x (InlF UnitF) p h.1, splits_recall c c' xs h.0 zs p h.2, h.3)
  splits_recall c c' (x ∷ xs) ys zs p (inr h) = inr (h.0, element_recall c c' x (InrF UnitF) p h.1, splits_recall c c' xs ys h.0 p h.2, h.3)

  maps_recall : (c c' : Value) (xs ys : List Flat) → bare_value c ≡ c' → Maps (MeansIn n) c' xs ys → Maps (MeansIn n) c xs ys
  maps_recall c c' [] ys p h = h
  maps_recall c c' (x ∷ xs) ys p h = (h.0, h.1, element_recall c c' x h.0 p h.2, maps_recall c c' xs h.1 p h.3, h.4)

  -- under a name that is bound to what is left of u
  body : (γ : Env) (x : Name) (u u' : Value) (b : Term) (w : Value) → bare_value u ≡ u' → MeansIn n (Bind x u' (bare_env γ)) (bare b) w → Bared (MeansIn n (Bind x u γ) b) w
  body γ x u u' b w p h = down (Bind x u γ) b w (rw p h)

  body_of_two : (γ : Env) (x y : Name) (u u' v v' : Value) (b : Term) (w : Value) → bare_value u ≡ u' → bare_value v ≡ v' → MeansIn n (Bind y v' (Bind x u' (bare_env γ))) (bare b) w → Bared (MeansIn n (Bind y v (Bind x u γ)) b) w
  body_of_two γ x y u u' v v' b w p q h = down (Bind y v (Bind x u γ)) b w (rw (p, q) h)

truth_at : (b : Bool) (w : Value) → w ≡ truth b → bare_value (truth b) ≡ w
truth_at b w h = truth_is_bare b ∙ sym h

pub recall : (n : ℕ) (γ : Env) (e : Term) (w : Value) → MeansIn n (bare_env γ) (bare e) w → Bared (MeansIn n γ e) w
recall zero γ e w h = absurd h
recall (suc n) γ (at s (VarE x)) w h = find_recall γ x w h
recall (suc n) γ (at s (NumE z)) w h = (NumV z, refl, sym h)
recall (suc n) γ (at s (TextE t)) w h = (TextV t, refl, sym h)
recall (suc n) γ (at s UnitE) w h = (UnitV, refl, sym h)
recall (suc n) γ (at s (PairE a b)) w h = let p = recall n γ a h.0 h.2 in let q = recall n γ b h.1 h.3 in (PairV p.0 q.0, (p.0, q.0, p.1, q.1, refl), cc (p.2, q.2, h.4))
recall (suc n) γ (at s (WithE a b)) w h = let p = recall n γ a h.0 h.2 in let q = recall n γ b h.1 h.3 in (PairV p.0 q.0, (p.0, q.0, p.1, q.1, refl), cc (p.2, q.2, h.4))
recall (suc n) γ (at s (FstE e)) w h = let p = as_pair (MeansIn n γ e) w h.0 (recall n γ e _ h.1) in (p.0, (p.1, p.2), p.3)
recall (suc n) γ (at s (SndE e)) w h = let p = as_pair (MeansIn n γ e) h.0 w (recall n γ e _ h.1) in (p.1, (p.0, p.2), p.4)
recall (suc n) γ (at s (LetPairE x y e b)) w h =
    let p = as_pair (MeansIn n γ e) h.0 h.1 (recall n γ e _ h.2) in let q = body_of_two n (recall n) γ x y p.0 h.0 p.1 h.1 b w p.3 p.4 h.3 in (q.0, (p.0, p.1, p.2, q.1), q.2)
recall (suc n) γ (at s (InlE u t e)) w h = let p = recall n γ e h.0 h.1 in (InlV p.0, (p.0, p.1, refl), cc (p.2, h.2))
recall (suc n) γ (at s (InrE u t e)) w h = let p = recall n γ e h.0 h.1 in (InrV p.0, (p.0, p.1, refl), cc (p.2, h.2))
recall (suc n) γ (at s (CaseE e x a y b)) w (inl h) = let p = as_inl (MeansIn n γ e) h.0 (recall n γ e _ h.1) in let q = body n (recall n) γ x p.0 h.0 a w p.2 h.2 in (q.0, inl (p.0, p.1, q.1), q.2)
recall (suc n) γ (at s (CaseE e x a y b)) w (inr h) = let p = as_inr (MeansIn n γ e) h.0 (recall n γ e _ h.1) in let q = body n (recall n) γ y p.0 h.0 b w p.2 h.2 in (q.0, inr (p.0, p.1, q.1), q.2)
recall (suc n) γ (at s (IfE e a b)) w (inl h) = let p = as_flat (MeansIn n γ e) (InlF UnitF) (recall n γ e _ h.0) in let q = recall n γ a w h.1 in (q.0, inl (p, q.1), q.2)
recall (suc n) γ (at s (IfE e a b)) w (inr h) = let p = as_flat (MeansIn n γ e) (InrF UnitF) (recall n γ e _ h.0) in let q = recall n γ b w h.1 in (q.0, inr (p, q.1), q.2)
recall (suc n) γ (at s (FunE x u t e)) w h = (FunV x e γ, refl, sym h)
recall (suc n) γ (at s (FnE x u t e)) w h = (FnV x e γ, refl, sym h)
recall (suc n) γ (at s (AppE f a)) w h =
    let p = recall n γ f h.0 h.2 in let q = recall n γ a h.1 h.3 in let r = applies_at n (recall n) p.0 h.0 q.0 h.1 w p.2 q.2 h.4 in (r.0, (p.0, q.0, p.1, q.1, r.1), r.2)
recall (suc n) γ (at s (BangE r e)) w h = let p = recall n γ e h.0 h.1 in (BangV p.0, (p.0, p.1, refl), cc (p.2, h.2))
recall (suc n) γ (at s (LetBangE x e b)) w h = let p = as_bang (MeansIn n γ e) h.0 (recall n γ e _ h.1) in let q = body n (recall n) γ x p.0 h.0 b w p.2 h.2 in (q.0, (p.0, p.1, q.1), q.2)
recall (suc n) γ (at s (LetE x e b)) w h = let p = recall n γ e h.0 h.1 in let q = body n (recall n) γ x p.0 h.0 b w p.2 h.2 in (q.0, (p.0, p.1, q.1), q.2)
recall (suc n) γ (at s (PlusE a b)) w h = (_, (h.0, h.1, as_num (MeansIn n γ a) h.0 (recall n γ a _ h.2), as_num (MeansIn n γ b) h.1 (recall n γ b _ h.3), refl), sym h.4)
recall (suc n) γ (at s (MinusE a b)) w h = (_, (h.0, h.1, as_num (MeansIn n γ a) h.0 (recall n γ a _ h.2), as_num (MeansIn n γ b) h.1 (recall n γ b _ h.3), refl), sym h.4)
recall (suc n) γ (at s (TimesE k e)) w h = (_, (h.0, as_num (MeansIn n γ e) h.0 (recall n γ e _ h.1), refl), sym h.2)
recall (suc n) γ (at s (LeE a b)) w h = (_, (h.0, h.1, as_num (MeansIn n γ a) h.0 (recall n γ a _ h.2), as_num (MeansIn n γ b) h.1 (recall n γ b _ h.3), refl), truth_at (int_le h.0 h.1) w h.4)
recall (suc n) γ (at s (EqE a b)) w (inl h) =
    (_, inl (h.0, h.1, as_num (MeansIn n γ a) h.0 (recall n γ a _ h.2), as_num (MeansIn n γ b) h.1 (recall n γ b _ h.3), refl), truth_at (same_number h.0 h.1) w h.4)
recall (suc n) γ (at s (EqE a b)) w (inr h) =
    (_, inr (h.0, h.1, as_text (MeansIn n γ a) h.0 (recall n γ a _ h.2), as_text (MeansIn n γ b) h.1 (recall n γ b _ h.3), refl), truth_at (bytes_eq h.0 h.1) w h.4)
recall (suc n) γ (at s (ClipE lo hi e)) w h = (_, (h.0, as_num (MeansIn n γ e) h.0 (recall n γ e _ h.1), refl), sym h.2)
recall (suc n) γ (at s (LeastE e)) w h = (_, (h.0, h.1, as_nums (MeansIn n γ e) h.0 h.1 (recall n γ e _ h.2), refl), sym h.3)
recall (suc n) γ (at s (GreatestE e)) w h = (_, (h.0, h.1, as_nums (MeansIn n γ e) h.0 h.1 (recall n γ e _ h.2), refl), sym h.3)
recall (suc n) γ (at s (SizeE e)) w h = (_, (h.0, as_bag (MeansIn n γ e) h.0 (recall n γ e _ h.1), refl), sym h.2)
recall (suc n) γ (at s (SumE lo hi e)) w h = (_, (h.0, as_bag (MeansIn n γ e) _ (recall n γ e _ h.1), refl), sym h.2)
recall (suc n) γ (at s (UnionE a b)) w h = (_, (h.0, h.1, as_bag (MeansIn n γ a) h.0 (recall n γ a _ h.2), as_bag (MeansIn n γ b) h.1 (recall n γ b _ h.3), refl), sym h.4)
recall (suc n) γ (at s (MapE f b)) w h =
    let p = recall n γ f h.0 h.3 in (_, (p.0, h.1, h.2, p.1, as_bag (MeansIn n γ b) h.1 (recall n γ b _ h.4), maps_recall n (recall n) p.0 h.0 h.1 h.2 p.2 h.5, refl), sym h.6)
recall (suc n) γ (at s (FilterE f b)) w h =
    let p = recall n γ f h.0 h.4 in (_, (p.0, h.1, h.2, h.3, p.1, as_bag (MeansIn n γ b) h.1 (recall n γ b _ h.5), splits_recall n (recall n) p.0 h.0 h.1 h.2 h.3 p.2 h.6, refl), sym h.7)
recall (suc n) γ (at s (SplitE f b)) w h =
    let p = recall n γ f h.0 h.4 in (_, (p.0, h.1, h.2, h.3, p.1, as_bag (MeansIn n γ b) h.1 (recall n γ b _ h.5), splits_recall n (recall n) p.0 h.0 h.1 h.2 h.3 p.2 h.6, refl), sym h.7)

pub same_number_bare : (γ : Env) (e : Term) (z : ℤ) → ((n : ℕ) × MeansIn n (bare_env γ) (bare e) (NumV z)) → (n : ℕ) × MeansIn n γ e (NumV z)
same_number_bare γ e z h = (h.0, as_num (MeansIn h.0 γ e) z (recall h.0 γ e (NumV z) h.1))
