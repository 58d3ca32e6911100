-- A term whose parts have values, each of them typed, has one, and each of its values is typed: for each form.
use Rattle.std.proofs.Common.{ap, arith, inl, inr, refl, subst, ◌∙◌}
use Rattle.std.proofs.lemmas.Int.{clamps, ints}
use Rattle.std.proofs.lemmas.List.Elements.{All-cons, All-head, All-nil, All-tail}
use Rattle.std.specs.Int.{int_max, int_min}
use Rattle.std.specs.Prelude.{All, Bool, List, Some, [], bytes_eq, cond, false, int_le, length, map, neg_ℤ, pos, suc, true, zero, ℕ, ℤ, ◌*ℤ◌, ◌++◌, ◌+ℤ◌, ◌+◌, ◌-ℤ◌, ◌∷◌, ◌≡◌, ◌≤ℤ◌, ◌≤◌, ◌⊎◌}
use Rattle.fz_frac.specs.Distance.{Distance, Inf}
use Rattle.fz_ast.specs.Limits.{IsNumber, IsText, limit}
use Rattle.fz_ast.specs.Terms.{AppE, BangE, CaseE, ClipE, EqE, FilterE, FnE, FstE, FunE, GreatestE, IfE, InlE, InrE, LeE, LeastE, LetBangE, LetE, LetPairE, MapE, MinusE, Name, NumE, PairE, PlusE, SizeE, SndE, SplitE, SumE, Term, TermForm, TextE, TimesE, UnionE, UnitE, VarE, WithE, at}
use Rattle.fz_ast.specs.declared.span.Span.{Span}
use Rattle.fz_ast.specs.Types.{ArrowT, BagT, BangT, BoolT, NumT, SumT, TensorT, TextT, Ty, UnitT, WithT}
use Rattle.term_meanings.specs.Sensitivities.{Sensitivities}
use Rattle.term_meanings.specs.Scopes.{Context, IsBound, here, there}
use Rattle.metric_values.specs.Distances.{same_number}
use Rattle.metric_values.specs.Numbers.{clamp, clip, clipped_sum}
use Rattle.metric_values.specs.Values.{BagV, BangF, BangV, Bind, Env, Flat, FnV, FunV, InlF, InlV, InrF, InrV, NumF, NumV, PairF, PairV, TextF, TextV, UnitF, UnitV, Value, truth, value_of}
use Rattle.term_meanings.proofs.Flatness.{IsFlat}
use Rattle.term_meanings.proofs.Heights.{applies_some, applies_up, maps_up, raise, splits_up}
use Rattle.term_meanings.specs.Environments.{TypedEnv, typed_bind}
use Rattle.term_meanings.specs.Means.{Applies, Maps, Meaning, Means, MeansIn, Rules, Splits, apply, apply_fn, find}
use Rattle.term_meanings.specs.Near.{Typed, TypedBag, TypedBang, TypedFun, TypedNum, TypedPair, TypedSum, TypedText, TypedUnit, typed_bag, typed_bang, typed_inl, typed_inr, typed_num, typed_pair, typed_text, typed_unit}

pub record Fine (γ : Env) (e : Term) (A : Ty) : Type 0 where
  pub has : (v : Value) × Means γ e v
  pub all : (n : ℕ) (v : Value) → MeansIn n γ e v → Typed A v

pub clamped : (z : ℤ) → (neg_ℤ limit ≤ℤ clamp z) × (clamp z ≤ℤ limit)
clamped z = omega (arith, ints, clamps)

-- names

find_typed : {Γ : Context} {x : Name} {A : Ty} {D : Sensitivities} {γ : Env} → IsBound Γ x A D → TypedEnv Γ γ → (v : Value) × (find γ x ≡ Some v) × Typed A v
find_typed (here {x = x} e) (typed_bind {v = v} {γ = γ} t ts) = (v, ap (λ b. cond b (Some v) (find γ x)) e, t)
find_typed (there {x = x} n s) (typed_bind {v = v} {γ = γ} t ts) =
    let r = find_typed s ts in (r.0, ap (λ b. cond b (Some v) (find γ x)) n ∙ r.1, r.2)

-- one lemma for each form of term

-- a result comes by some height
pub lift : {c u v : Value} → Applies Means c u v → (n : ℕ) × Applies (MeansIn n) c u v
lift (apply h) = (h.0, apply h.1)
lift (apply_fn h) = (h.0, apply_fn h.1)

pub fine_plus : {γ : Env} {a b : Term} {o : Span} → Fine γ a NumT → Fine γ b NumT → Fine γ (at o (PlusE a b)) NumT
fine_plus {γ} {a} {b} {o = o} f g = record {
  has = go (f.all f.has.1.0 f.has.0 f.has.1.1) (g.all g.has.1.0 g.has.0 g.has.1.1) f.has.1.0 g.has.1.0 f.has.1.1 g.has.1.1;
  all = all;
}
  where
    go : {u w : Value} → TypedNum u → TypedNum w → (n m : ℕ) → MeansIn n γ a u → MeansIn m γ b w → (v : Value) × Means γ (at o (PlusE a b)) v
    go (typed_num {z = y} _) (typed_num {z = z} _) n m h k =
        (NumV (clamp (y +ℤ z)), (suc (n + m), (y, z, raise n (n + m) (omega arith) γ a _ h, raise m (n + m) (omega arith) γ b _ k, refl)))

    all : (n : ℕ) (v : Value) → MeansIn n γ (at o (PlusE a b)) v → TypedNum v
    all zero v h = absurd h
    all (suc n) v h = let c = clamped (h.0 +ℤ h.1) in rw h.4 (typed_num c)

pub fine_app : {γ : Env} {f a : Term} {A B : Ty} {o : Span} → Fine γ f (ArrowT A B) → Fine γ a A → Fine γ (at o (AppE f a)) B
fine_app {γ} {f} {a} {A} {B} {o = o} p q = record { has = go (fun.has u tu); all = all }
  where
    c : Value
    c = p.has.0

    u : Value
    u = q.has.0

    fun : TypedFun (Typed A) (Typed B) c
    fun = p.all p.has.1.0 c p.has.1.1

    tu : Typed A u
    tu = q.all q.has.1.0 u q.has.1.1

    low : (k : ℕ) → p.has.1.0 ≤ p.has.1.0 + q.has.1.0 + k
    low k = omega arith

    mid : (k : ℕ) → q.has.1.0 ≤ p.has.1.0 + q.has.1.0 + k
    mid k = omega arith

    go : ((v : Value) × Applies Means c u v) → (v : Value) × Means γ (at o (AppE f a)) v
    go r = let h = lift r.1 in (
      r.0,
      (
        suc (p.has.1.0 + q.has.1.0 + h.0),
        (
          c,
          u,
          raise _ _ (low h.0) γ f c p.has.1.1,
          raise _ _ (mid h.0) γ a u q.has.1.1,
          applies_up _ _ (raise h.0 (p.has.1.0 + q.has.1.0 + h.0) (omega arith)) h.1,
        ),
      ),
    )

    all : (n : ℕ) (v : Value) → MeansIn n γ (at o (AppE f a)) v → Typed B v
    all zero v h = absurd h
    all (suc n) v h = (p.all n h.0 h.2).all h.1 (q.all n h.1 h.3) v (applies_some n h.4)

pub fine_fun : {γ : Env} {x : Name} {e : Term} {A B : Ty} {o : Span} {u : Span} → ((u : Value) → Typed A u → Fine (Bind x u γ) e B) → Fine γ (at o (FunE x u A e)) (ArrowT A B)
fine_fun {γ} {x} {e} {A} {B} {o = o} {u = u} body = record { has = (FunV x e γ, (1, refl)); all = all }
  where
    inside : (u : Value) → Typed A u → (v : Value) → Applies Means (FunV x e γ) u v → Typed B v
    inside u t v (apply h) = (body u t).all h.0 v h.1

    all : (n : ℕ) (v : Value) → MeansIn n γ (at o (FunE x u A e)) v → Typed (ArrowT A B) v
    all zero v h = absurd h
    all (suc n) v h = rw h record { has = λ u t. ((body u t).has.0, apply (body u t).has.1); all = inside }

pub fine_var : {Γ : Context} {x : Name} {A : Ty} {D : Sensitivities} {γ : Env} {o : Span} → IsBound Γ x A D → TypedEnv Γ γ → Fine γ (at o (VarE x)) A
fine_var {x = x} {A = A} {γ = γ} {o = o} s t = record { has = (r.0, (1, r.1)); all = all }
  where
    r : (v : Value) × (find γ x ≡ Some v) × Typed A v
    r = find_typed s t

    all : (n : ℕ) (v : Value) → MeansIn n γ (at o (VarE x)) v → Typed A v
    all zero v h = absurd h
    all (suc n) v h = let e : r.0 ≡ v = cc (r.1, h) in subst (Typed A) e r.2

pub fine_num : {γ : Env} {z : ℤ} {o : Span} → IsNumber z → Fine γ (at o (NumE z)) NumT
fine_num {γ} {z} {o = o} a = record { has = (NumV z, (1, refl)); all = all }
  where
    all : (n : ℕ) (v : Value) → MeansIn n γ (at o (NumE z)) v → TypedNum v
    all zero v h = absurd h
    all (suc n) v h = rw h (typed_num a)

pub fine_unit : {γ : Env} {o : Span} → Fine γ (at o UnitE) UnitT
fine_unit {γ} {o = o} = record { has = (UnitV, (1, refl)); all = all }
  where
    all : (n : ℕ) (v : Value) → MeansIn n γ (at o UnitE) v → TypedUnit v
    all zero v h = absurd h
    all (suc n) v h = rw h typed_unit

pub fine_pair : {γ : Env} {a b : Term} {A B : Ty} {o : Span} → Fine γ a A → Fine γ b B → Fine γ (at o (PairE a b)) (TensorT A B)
fine_pair {γ} {a} {b} {A} {B} {o = o} f g = record { has = has; all = all }
  where
    has : (v : Value) × Means γ (at o (PairE a b)) v
    has = let n = f.has.1.0 in let m = g.has.1.0 in
        (PairV f.has.0 g.has.0, (suc (n + m), (f.has.0, g.has.0, raise n (n + m) (omega arith) γ a _ f.has.1.1, raise m (n + m) (omega arith) γ b _ g.has.1.1, refl)))

    all : (n : ℕ) (v : Value) → MeansIn n γ (at o (PairE a b)) v → TypedPair (Typed A) (Typed B) v
    all zero v h = absurd h
    all (suc n) v h = rw h.4 (typed_pair (f.all n h.0 h.2) (g.all n h.1 h.3))

pub fine_let_pair : {γ : Env} {x y : Name} {e b : Term} {A B C : Ty} {o : Span} → Fine γ e (TensorT A B) → ((u w : Value) → Typed A u → Typed B w → Fine (Bind y w (Bind x u γ)) b C) → Fine γ (at o (LetPairE x y e b)) C
fine_let_pair {γ} {x} {y} {e} {b} {A} {B} {C} {o = o} f g = record { has = go (f.all f.has.1.0 f.has.0 f.has.1.1) f.has.1.0 f.has.1.1; all = all }
  where
    go : {v : Value} → TypedPair (Typed A) (Typed B) v → (n : ℕ) → MeansIn n γ e v → (r : Value) × Means γ (at o (LetPairE x y e b)) r
    go (typed_pair {a = u} {b = w} tu tw) n h =
        let q = (g u w tu tw).has in let m = q.1.0 in
        (q.0, (suc (n + m), (u, w, raise n (n + m) (omega arith) γ e _ h, raise m (n + m) (omega arith) _ b _ q.1.1)))

    inside : (u w : Value) → TypedPair (Typed A) (Typed B) (PairV u w) → (n : ℕ) (v : Value) → MeansIn n (Bind y w (Bind x u γ)) b v → Typed C v
    inside u w (typed_pair tu tw) n v h = (g u w tu tw).all n v h

    all : (n : ℕ) (v : Value) → MeansIn n γ (at o (LetPairE x y e b)) v → Typed C v
    all zero v h = absurd h
    all (suc n) v h = inside h.0 h.1 (f.all n _ h.2) n v h.3

pub fine_inl : {γ : Env} {e : Term} {A T : Ty} {o : Span} {u : Span} → Fine γ e A → Fine γ (at o (InlE u T e)) (SumT A T)
fine_inl {γ} {e} {A} {T} {o = o} {u = u} f = record { has = (InlV f.has.0, (suc f.has.1.0, (f.has.0, f.has.1.1, refl))); all = all }
  where
    all : (n : ℕ) (v : Value) → MeansIn n γ (at o (InlE u T e)) v → TypedSum (Typed A) (Typed T) v
    all zero v h = absurd h
    all (suc n) v h = rw h.2 (typed_inl (f.all n h.0 h.1))

pub fine_inr : {γ : Env} {e : Term} {A T : Ty} {o : Span} {u : Span} → Fine γ e A → Fine γ (at o (InrE u T e)) (SumT T A)
fine_inr {γ} {e} {A} {T} {o = o} {u = u} f = record { has = (InrV f.has.0, (suc f.has.1.0, (f.has.0, f.has.1.1, refl))); all = all }
  where
    all : (n : ℕ) (v : Value) → MeansIn n γ (at o (InrE u T e)) v → TypedSum (Typed T) (Typed A) v
    all zero v h = absurd h
    all (suc n) v h = rw h.2 (typed_inr (f.all n h.0 h.1))

pub fine_case : {γ : Env} {x y : Name} {e a b : Term} {A B C : Ty} {o : Span} → Fine γ e (SumT A B) → ((u : Value) → Typed A u → Fine (Bind x u γ) a C) → ((u : Value) → Typed B u → Fine (Bind y u γ) b C) → Fine γ (at o (CaseE e x a y b)) C
fine_case {γ} {x} {y} {e} {a} {b} {A} {B} {C} {o = o} f g k = record { has = go (f.all f.has.1.0 f.has.0 f.has.1.1) f.has.1.0 f.has.1.1; all = all }
  where
    go : {v : Value} → TypedSum (Typed A) (Typed B) v → (n : ℕ) → MeansIn n γ e v → (r : Value) × Means γ (at o (CaseE e x a y b)) r
    go (typed_inl {a = u} t) n h =
        let q = (g u t).has in let m = q.1.0 in
        (q.0, (suc (n + m), inl (u, raise n (n + m) (omega arith) γ e _ h, raise m (n + m) (omega arith) _ a _ q.1.1)))
    go (typed_inr {a = u} t) n h =
        let q = (k u t).has in let m = q.1.0 in
        (q.0, (suc (n + m), inr (u, raise n (n + m) (omega arith) γ e _ h, raise m (n + m) (omega arith) _ b _ q.1.1)))

    left : (u : Value) → TypedSum (Typed A) (Typed B) (InlV u) → (n : ℕ) (v : Value) → MeansIn n (Bind x u γ) a v → Typed C v
    left u (typed_inl t) n v h = (g u t).all n v h

    right : (u : Value) → TypedSum (Typed A) (Typed B) (InrV u) → (n : ℕ) (v : Value) → MeansIn n (Bind y u γ) b v → Typed C v
    right u (typed_inr t) n v h = (k u t).all n v h

    all : (n : ℕ) (v : Value) → MeansIn n γ (at o (CaseE e x a y b)) v → Typed C v
    all zero v h = absurd h
    all (suc n) v (inl h) = left h.0 (f.all n _ h.1) n v h.2
    all (suc n) v (inr h) = right h.0 (f.all n _ h.1) n v h.2

pub fine_bang : {γ : Env} {r : Distance} {e : Term} {A : Ty} {o : Span} → Fine γ e A → Fine γ (at o (BangE r e)) (BangT r A)
fine_bang {γ} {r} {e} {A} {o = o} f = record { has = (BangV f.has.0, (suc f.has.1.0, (f.has.0, f.has.1.1, refl))); all = all }
  where
    all : (n : ℕ) (v : Value) → MeansIn n γ (at o (BangE r e)) v → TypedBang (Typed A) v
    all zero v h = absurd h
    all (suc n) v h = rw h.2 (typed_bang (f.all n h.0 h.1))

pub fine_let_bang : {γ : Env} {x : Name} {e b : Term} {s : Distance} {A B : Ty} {o : Span} → Fine γ e (BangT s A) → ((u : Value) → Typed A u → Fine (Bind x u γ) b B) → Fine γ (at o (LetBangE x e b)) B
fine_let_bang {γ} {x} {e} {b} {s} {A} {B} {o = o} f g = record { has = go (f.all f.has.1.0 f.has.0 f.has.1.1) f.has.1.0 f.has.1.1; all = all }
  where
    go : {v : Value} → TypedBang (Typed A) v → (n : ℕ) → MeansIn n γ e v → (r : Value) × Means γ (at o (LetBangE x e b)) r
    go (typed_bang {a = u} t) n h =
        let q = (g u t).has in let m = q.1.0 in
        (q.0, (suc (n + m), (u, raise n (n + m) (omega arith) γ e _ h, raise m (n + m) (omega arith) _ b _ q.1.1)))

    inside : (u : Value) → TypedBang (Typed A) (BangV u) → (n : ℕ) (v : Value) → MeansIn n (Bind x u γ) b v → Typed B v
    inside u (typed_bang t) n v h = (g u t).all n v h

    all : (n : ℕ) (v : Value) → MeansIn n γ (at o (LetBangE x e b)) v → Typed B v
    all zero v h = absurd h
    all (suc n) v h = inside h.0 (f.all n _ h.1) n v h.2

pub fine_size : {γ : Env} {e : Term} {A : Ty} {o : Span} → Fine γ e (BagT A) → Fine γ (at o (SizeE e)) NumT
fine_size {γ} {e} {A} {o = o} f = record { has = go (f.all f.has.1.0 f.has.0 f.has.1.1) f.has.1.0 f.has.1.1; all = all }
  where
    go : {v : Value} → TypedBag (Typed A) v → (n : ℕ) → MeansIn n γ e v → (r : Value) × Means γ (at o (SizeE e)) r
    go (typed_bag {xs = xs} t) n h = (NumV (clamp (pos (length xs))), (suc n, (xs, h, refl)))

    all : (n : ℕ) (v : Value) → MeansIn n γ (at o (SizeE e)) v → TypedNum v
    all zero v h = absurd h
    all (suc n) v h = let c = clamped (pos (length h.0)) in rw h.2 (typed_num c)

-- lists

truths : {v : Value} → TypedSum TypedUnit TypedUnit v → (v ≡ InlV UnitV) ⊎ (v ≡ InrV UnitV)
truths (typed_inl typed_unit) = inl refl
truths (typed_inr typed_unit) = inr refl

pub typed_truth : (b : Bool) → Typed BoolT (truth b)
typed_truth true = typed_inl typed_unit
typed_truth false = typed_inr typed_unit

-- both halves are typed
pub splits_typed : (R : Meaning) (P : Flat → Type 0) (c : Value) (xs ys zs : List Flat) → All P xs → Splits R c xs ys zs → All P ys × All P zs
splits_typed R P c [] ys zs t h = rw (h.0, h.1) (t, t)
splits_typed R P c (x ∷ xs) ys zs t (inl h) = let r = splits_typed R P c xs h.0 zs (All-tail P x xs t) h.2 in rw h.3 (All-cons P x h.0 (All-head P x xs t) r.0, r.1)
splits_typed R P c (x ∷ xs) ys zs t (inr h) = let r = splits_typed R P c xs ys h.0 (All-tail P x xs t) h.2 in rw h.3 (r.0, All-cons P x h.0 (All-head P x xs t) r.1)

-- the list can be split
splits_has : (A : Ty) (c : Value) → TypedFun (TypedBang (Typed A)) (TypedSum TypedUnit TypedUnit) c → (xs : List Flat) → All (λ x. Typed A (value_of x)) xs → (n : ℕ) × (ys zs : List Flat) × Splits (MeansIn n) c xs ys zs
splits_has A c f [] t = (0, [], [], (refl, refl))
splits_has A c f (x ∷ xs) t = one (f.has (BangV (value_of x)) tx) (splits_has A c f xs (All-tail P x xs t))
  where
    P : Flat → Type 0
    P = λ x. Typed A (value_of x)

    tx : TypedBang (Typed A) (BangV (value_of x))
    tx = typed_bang (All-head P x xs t)

    one : ((v : Value) × Applies Means c (BangV (value_of x)) v) → ((n : ℕ) × (ys zs : List Flat) × Splits (MeansIn n) c xs ys zs) → (n : ℕ) × (ys zs : List Flat) × Splits (MeansIn n) c (x ∷ xs) ys zs
    one r q = two (truths (f.all (BangV (value_of x)) tx r.0 r.1))
      where
        a : (n : ℕ) × Applies (MeansIn n) c (BangV (value_of x)) r.0
        a = lift r.1

        k : ℕ
        k = a.0 + q.0

        now : Applies (MeansIn k) c (BangV (value_of x)) r.0
        now = applies_up _ _ (raise a.0 k (omega arith)) a.1

        more : Splits (MeansIn k) c xs q.1 q.2
        more = splits_up _ _ (raise q.0 k (omega arith)) c xs q.1 q.2 q.3

        two : (r.0 ≡ InlV UnitV) ⊎ (r.0 ≡ InrV UnitV) → (n : ℕ) × (ys zs : List Flat) × Splits (MeansIn n) c (x ∷ xs) ys zs
        two (inl e) = (k, x ∷ q.1, q.2, inl (q.1, subst (λ v. Applies (MeansIn k) c (BangV (value_of x)) v) e now, more, refl))
        two (inr e) = (k, q.1, x ∷ q.2, inr (q.2, subst (λ v. Applies (MeansIn k) c (BangV (value_of x)) v) e now, more, refl))

-- a typed value of a flat type is what a bag holds
pub flat : (A : Ty) (v : Value) → IsFlat A → Typed A v → (x : Flat) × (v ≡ value_of x)
flat NumT _ g (typed_num {z = z} _) = (NumF z, refl)
flat TextT _ g (typed_text {s = s} _) = (TextF s, refl)
flat UnitT _ g typed_unit = (UnitF, refl)
flat (TensorT A B) _ g (typed_pair a b) = let x = flat A _ g.0 a in let y = flat B _ g.1 b in (PairF x.0 y.0, cc (x.1, y.1))
flat (WithT A B) _ g (typed_pair a b) = let x = flat A _ g.0 a in let y = flat B _ g.1 b in (PairF x.0 y.0, cc (x.1, y.1))
flat (SumT A B) _ g (typed_inl a) = let x = flat A _ g.0 a in (InlF x.0, ap InlV x.1)
flat (SumT A B) _ g (typed_inr a) = let x = flat B _ g.1 a in (InrF x.0, ap InrV x.1)
flat (ArrowT A B) v g t = absurd g
flat (BangT r A) _ g (typed_bang a) = let x = flat A _ g.1 a in (BangF x.0, ap BangV x.1)
flat (BagT A) v g t = absurd g

maps_typed : (A B : Ty) (n : ℕ) (c : Value) → TypedFun (TypedBang (Typed A)) (Typed B) c → (xs ys : List Flat) → All (λ x. Typed A (value_of x)) xs → Maps (MeansIn n) c xs ys → All (λ x. Typed B (value_of x)) ys
maps_typed A B n c f [] ys t h = rw h (All-nil (λ x. Typed B (value_of x)))
maps_typed A B n c f (x ∷ xs) ys t h =
    let r = maps_typed A B n c f xs h.1 (All-tail (λ x. Typed A (value_of x)) x xs t) h.3 in
    let here = f.all (BangV (value_of x)) (typed_bang (All-head (λ x. Typed A (value_of x)) x xs t)) (value_of h.0) (applies_some n h.2) in
    rw h.4 (All-cons (λ x. Typed B (value_of x)) h.0 h.1 here r)

maps_has : (A B : Ty) (c : Value) → IsFlat B → TypedFun (TypedBang (Typed A)) (Typed B) c → (xs : List Flat) → All (λ x. Typed A (value_of x)) xs → (n : ℕ) × (ys : List Flat) × Maps (MeansIn n) c xs ys
maps_has A B c g f [] t = (0, [], refl)
maps_has A B c g f (x ∷ xs) t = one (f.has (BangV (value_of x)) tx) (maps_has A B c g f xs (All-tail P x xs t))
  where
    P : Flat → Type 0
    P = λ x. Typed A (value_of x)

    tx : TypedBang (Typed A) (BangV (value_of x))
    tx = typed_bang (All-head P x xs t)

    one : ((v : Value) × Applies Means c (BangV (value_of x)) v) → ((n : ℕ) × (ys : List Flat) × Maps (MeansIn n) c xs ys) → (n : ℕ) × (ys : List Flat) × Maps (MeansIn n) c (x ∷ xs) ys
    one r q =
        let a = lift r.1 in
        let k = a.0 + q.0 in
        let y = flat B r.0 g (f.all (BangV (value_of x)) tx r.0 r.1) in
        (k, y.0 ∷ q.1, (y.0, q.1, subst (λ v. Applies (MeansIn k) c (BangV (value_of x)) v) y.1 (applies_up _ _ (raise a.0 k (omega arith)) a.1), maps_up _ _ (raise q.0 k (omega arith)) c xs q.1 q.2, refl))

pub fine_by : {γ : Env} {o : Span} {e : TermForm} {A : Ty} → ((v : Value) × Means γ (at o e) v) → ((n : ℕ) (v : Value) → Rules (MeansIn n) γ e v → Typed A v) → Fine γ (at o e) A
fine_by {γ} {o} {e} {A} has all = record { has = has; all = by }
  where
    by : (n : ℕ) (v : Value) → MeansIn n γ (at o e) v → Typed A v
    by zero v h = absurd h
    by (suc n) v h = all n v h

-- both parts at one height
pub both : {γ γ' : Env} {a b : Term} {u w : Value} → Means γ a u → Means γ' b w → (n : ℕ) × MeansIn n γ a u × MeansIn n γ' b w
both {γ} {γ'} {a} {b} {u} {w} h k = (h.0 + k.0, raise h.0 (h.0 + k.0) (omega arith) γ a u h.1, raise k.0 (h.0 + k.0) (omega arith) γ' b w k.1)

-- what a term of a type has
abbrev HasOf : Env → Term → Ty → Type 0
HasOf γ e A = (v : Value) × Means γ e v × Typed A v

has_of : {γ : Env} {e : Term} {A : Ty} → Fine γ e A → HasOf γ e A
has_of f = (f.has.0, f.has.1, f.all f.has.1.0 f.has.0 f.has.1.1)

num_of : {γ : Env} {e : Term} → Fine γ e NumT → (z : ℤ) × Means γ e (NumV z)
num_of {γ} {e} f = go (has_of f).1 (has_of f).2
  where
    go : {v : Value} → Means γ e v → TypedNum v → (z : ℤ) × Means γ e (NumV z)
    go m (typed_num {z = z} _) = (z, m)

text_of : {γ : Env} {e : Term} → Fine γ e TextT → (s : List ℕ) × Means γ e (TextV s)
text_of {γ} {e} f = go (has_of f).1 (has_of f).2
  where
    go : {v : Value} → Means γ e v → TypedText v → (s : List ℕ) × Means γ e (TextV s)
    go m (typed_text {s = s} _) = (s, m)

with_of : {γ : Env} {e : Term} {A B : Ty} → Fine γ e (WithT A B) → (u w : Value) × Means γ e (PairV u w) × Typed A u × Typed B w
with_of {γ} {e} {A} {B} f = go (has_of f).1 (has_of f).2
  where
    go : {v : Value} → Means γ e v → TypedPair (Typed A) (Typed B) v → (u w : Value) × Means γ e (PairV u w) × Typed A u × Typed B w
    go m (typed_pair {a = u} {b = w} tu tw) = (u, w, m, tu, tw)

nums_of : {γ : Env} {e : Term} → Fine γ e (WithT NumT NumT) → (y z : ℤ) × Means γ e (PairV (NumV y) (NumV z))
nums_of {γ} {e} f = go (has_of f).1 (has_of f).2
  where
    go : {v : Value} → Means γ e v → TypedPair TypedNum TypedNum v → (y z : ℤ) × Means γ e (PairV (NumV y) (NumV z))
    go m (typed_pair (typed_num {z = y} _) (typed_num {z = z} _)) = (y, z, m)

bag_of : {γ : Env} {e : Term} {A : Ty} → Fine γ e (BagT A) → (xs : List Flat) × Means γ e (BagV xs) × All (λ x. Typed A (value_of x)) xs
bag_of {γ} {e} {A} f = go (has_of f).1 (has_of f).2
  where
    go : {v : Value} → Means γ e v → TypedBag (Typed A) v → (xs : List Flat) × Means γ e (BagV xs) × All (λ x. Typed A (value_of x)) xs
    go m (typed_bag {xs = xs} t) = (xs, m, t)

-- what is said of typed values
fits_num : {z : ℤ} → TypedNum (NumV z) → IsNumber z
fits_num (typed_num a) = a

halves : {P Q : Value → Type 0} {u w : Value} → TypedPair P Q (PairV u w) → P u × Q w
halves (typed_pair a b) = (a, b)

pub items : {P : Value → Type 0} {xs : List Flat} → TypedBag P (BagV xs) → All (λ x. P (value_of x)) xs
items (typed_bag t) = t

pub least_fits : (y z : ℤ) → IsNumber y → IsNumber z → IsNumber (int_min y z)
least_fits y z p q = omega (arith, ints, clamps)

pub greatest_fits : (y z : ℤ) → IsNumber y → IsNumber z → IsNumber (int_max y z)
greatest_fits y z p q = omega (arith, ints, clamps)

pub clip_fits : (lo hi z : ℤ) → IsNumber lo → IsNumber hi → IsNumber z → IsNumber (clip lo hi z)
clip_fits lo hi z p q r = omega (arith, ints, clamps)

pub as_num : {z : ℤ} → IsNumber z → TypedNum (NumV z)
as_num p = typed_num p

pub fine_text : {γ : Env} {s : List ℕ} {o : Span} → IsText s → Fine γ (at o (TextE s)) TextT
fine_text {γ} {s} l = fine_by (TextV s, (1, refl)) (λ n v h. rw h (typed_text l))

pub fine_minus : {γ : Env} {a b : Term} {o : Span} → Fine γ a NumT → Fine γ b NumT → Fine γ (at o (MinusE a b)) NumT
fine_minus f g = let y = num_of f in let z = num_of g in let k = both y.1 z.1 in
    fine_by (NumV (clamp (y.0 -ℤ z.0)), (suc k.0, (y.0, z.0, k.1, k.2, refl))) (λ n v h. rw h.4 (as_num (clamped (h.0 -ℤ h.1))))

pub fine_times : {γ : Env} {k : ℤ} {e : Term} {o : Span} → Fine γ e NumT → Fine γ (at o (TimesE k e)) NumT
fine_times {k = k} f = let z = num_of f in fine_by (NumV (clamp (k *ℤ z.0)), (suc z.1.0, (z.0, z.1.1, refl))) (λ n v h. rw h.2 (as_num (clamped (k *ℤ h.0))))

pub fine_clip : {γ : Env} {lo hi : ℤ} {e : Term} {o : Span} → IsNumber lo → IsNumber hi → Fine γ e NumT → Fine γ (at o (ClipE lo hi e)) NumT
fine_clip {lo = lo} {hi = hi} p q f = let z = num_of f in
    fine_by (NumV (clip lo hi z.0), (suc z.1.0, (z.0, z.1.1, refl))) (λ n v h. rw h.2 (as_num (clip_fits lo hi h.0 p q (fits_num (f.all n _ h.1)))))

pub fine_least : {γ : Env} {e : Term} {o : Span} → Fine γ e (WithT NumT NumT) → Fine γ (at o (LeastE e)) NumT
fine_least f = let p = nums_of f in
    fine_by (NumV (int_min p.0 p.1), (suc p.2.0, (p.0, p.1, p.2.1, refl))) (λ n v h. let t = halves (f.all n _ h.2) in rw h.3 (as_num (least_fits h.0 h.1 (fits_num t.0) (fits_num t.1))))

pub fine_greatest : {γ : Env} {e : Term} {o : Span} → Fine γ e (WithT NumT NumT) → Fine γ (at o (GreatestE e)) NumT
fine_greatest f = let p = nums_of f in
    fine_by (NumV (int_max p.0 p.1), (suc p.2.0, (p.0, p.1, p.2.1, refl))) (λ n v h. let t = halves (f.all n _ h.2) in rw h.3 (as_num (greatest_fits h.0 h.1 (fits_num t.0) (fits_num t.1))))

pub fine_le : {γ : Env} {a b : Term} {o : Span} → Fine γ a NumT → Fine γ b NumT → Fine γ (at o (LeE a b)) BoolT
fine_le f g = let y = num_of f in let z = num_of g in let k = both y.1 z.1 in
    fine_by (truth (int_le y.0 z.0), (suc k.0, (y.0, z.0, k.1, k.2, refl))) (λ n v h. rw h.4 (typed_truth (int_le h.0 h.1)))

eq_typed : (γ : Env) (a b : Term) (n : ℕ) (v : Value) → Rules (MeansIn n) γ (EqE a b) v → Typed BoolT v
eq_typed γ a b n v (inl h) = rw h.4 (typed_truth (same_number h.0 h.1))
eq_typed γ a b n v (inr h) = rw h.4 (typed_truth (bytes_eq h.0 h.1))

pub fine_eq_num : {γ : Env} {a b : Term} {o : Span} → Fine γ a NumT → Fine γ b NumT → Fine γ (at o (EqE a b)) BoolT
fine_eq_num {γ} {a} {b} f g = let y = num_of f in let z = num_of g in let k = both y.1 z.1 in
    fine_by (truth (same_number y.0 z.0), (suc k.0, inl (y.0, z.0, k.1, k.2, refl))) (eq_typed γ a b)

pub fine_eq_text : {γ : Env} {a b : Term} {o : Span} → Fine γ a TextT → Fine γ b TextT → Fine γ (at o (EqE a b)) BoolT
fine_eq_text {γ} {a} {b} f g = let y = text_of f in let z = text_of g in let k = both y.1 z.1 in
    fine_by (truth (bytes_eq y.0 z.0), (suc k.0, inr (y.0, z.0, k.1, k.2, refl))) (eq_typed γ a b)

pub fine_with : {γ : Env} {a b : Term} {A B : Ty} {o : Span} → Fine γ a A → Fine γ b B → Fine γ (at o (WithE a b)) (WithT A B)
fine_with f g = let k = both f.has.1 g.has.1 in
    fine_by (PairV f.has.0 g.has.0, (suc k.0, (f.has.0, g.has.0, k.1, k.2, refl))) (λ n v h. rw h.4 (typed_pair (f.all n h.0 h.2) (g.all n h.1 h.3)))

pub fine_fst : {γ : Env} {e : Term} {A B : Ty} {o : Span} → Fine γ e (WithT A B) → Fine γ (at o (FstE e)) A
fine_fst f = let p = with_of f in fine_by (p.0, (suc p.2.0, (p.1, p.2.1))) (λ n v h. (halves (f.all n _ h.1)).0)

pub fine_snd : {γ : Env} {e : Term} {A B : Ty} {o : Span} → Fine γ e (WithT A B) → Fine γ (at o (SndE e)) B
fine_snd f = let p = with_of f in fine_by (p.1, (suc p.2.0, (p.0, p.2.1))) (λ n v h. (halves (f.all n _ h.1)).1)

pub fine_if : {γ : Env} {e a b : Term} {C : Ty} {o : Span} → Fine γ e BoolT → Fine γ a C → Fine γ b C → Fine γ (at o (IfE e a b)) C
fine_if {γ} {e} {a} {b} {C} {o = o} f g k = fine_by (go (truths (has_of f).2)) all
  where
    go : ((has_of f).0 ≡ InlV UnitV) ⊎ ((has_of f).0 ≡ InrV UnitV) → (v : Value) × Means γ (at o (IfE e a b)) v
    go (inl q) = let m = both (subst (λ v. Means γ e v) q (has_of f).1) g.has.1 in (g.has.0, (suc m.0, inl (m.1, m.2)))
    go (inr q) = let m = both (subst (λ v. Means γ e v) q (has_of f).1) k.has.1 in (k.has.0, (suc m.0, inr (m.1, m.2)))

    all : (n : ℕ) (v : Value) → Rules (MeansIn n) γ (IfE e a b) v → Typed C v
    all n v (inl h) = g.all n v h.1
    all n v (inr h) = k.all n v h.1

pub fine_fn : {γ : Env} {x : Name} {e : Term} {A B : Ty} {o : Span} {u : Span} → ((u : Value) → Typed A u → Fine (Bind x u γ) e B) → Fine γ (at o (FnE x u A e)) (ArrowT (BangT Inf A) B)
fine_fn {γ} {x} {e} {A} {B} body = fine_by (FnV x e γ, (1, refl)) (λ n v h. rw h record { has = has; all = inside })
  where
    has : (u : Value) → TypedBang (Typed A) u → (v : Value) × Applies Means (FnV x e γ) u v
    has _ (typed_bang {a = u} t) = ((body u t).has.0, apply_fn (body u t).has.1)

    inside : (u : Value) → TypedBang (Typed A) u → (v : Value) → Applies Means (FnV x e γ) u v → Typed B v
    inside _ (typed_bang {a = u} t) v (apply_fn h) = (body u t).all h.0 v h.1

pub fine_let : {γ : Env} {x : Name} {e b : Term} {A B : Ty} {o : Span} → Fine γ e A → ((u : Value) → Typed A u → Fine (Bind x u γ) b B) → Fine γ (at o (LetE x e b)) B
fine_let f g = let q = has_of f in let r = g q.0 q.2 in let k = both q.1 r.has.1 in
    fine_by (r.has.0, (suc k.0, (q.0, k.1, k.2))) (λ n v h. (g h.0 (f.all n _ h.1)).all n v h.2)

-- a bag of numbers
pub numbers : (xs : List Flat) → All (λ x. TypedNum (value_of x)) xs → (zs : List ℤ) × (xs ≡ map NumF zs)
numbers [] t = ([], refl)
numbers (x ∷ xs) t = one x (All-head (λ x. TypedNum (value_of x)) x xs t) (numbers xs (All-tail (λ x. TypedNum (value_of x)) x xs t))
  where
    one : (x : Flat) → TypedNum (value_of x) → ((zs : List ℤ) × (xs ≡ map NumF zs)) → (zs : List ℤ) × (x ∷ xs ≡ map NumF zs)
    one (NumF z) h r = (z ∷ r.0, ap (λ ys. NumF z ∷ ys) r.1)
    one x h r = elim h [ ]

pub fine_sum : {γ : Env} {lo hi : ℤ} {e : Term} {o : Span} → Fine γ e (BagT NumT) → Fine γ (at o (SumE lo hi e)) NumT
fine_sum {γ} {lo = lo} {hi = hi} {e} f = let q = bag_of f in let zs = numbers q.0 q.2 in let m = subst (λ xs. Means γ e (BagV xs)) zs.1 q.1 in
    fine_by (NumV (clamp (clipped_sum lo hi zs.0)), (suc m.0, (zs.0, m.1, refl))) (λ n v h. rw h.2 (as_num (clamped (clipped_sum lo hi h.0))))

pub append_all : (P : Flat → Type 0) (xs ys : List Flat) → All P xs → All P ys → All P (xs ++ ys)
append_all P [] ys p q = q
append_all P (x ∷ xs) ys p q = All-cons P x (xs ++ ys) (All-head P x xs p) (append_all P xs ys (All-tail P x xs p) q)

pub fine_union : {γ : Env} {a b : Term} {A : Ty} {o : Span} → Fine γ a (BagT A) → Fine γ b (BagT A) → Fine γ (at o (UnionE a b)) (BagT A)
fine_union {A = A} f g = let x = bag_of f in let y = bag_of g in let k = both x.1 y.1 in
    fine_by (BagV (x.0 ++ y.0), (suc k.0, (x.0, y.0, k.1, k.2, refl)))
    (λ n v h. rw h.4 (typed_bag (append_all (λ x. Typed A (value_of x)) h.0 h.1 (items (f.all n _ h.2)) (items (g.all n _ h.3)))))

pub fine_map : {γ : Env} {f e : Term} {A B : Ty} {o : Span} → IsFlat B → Fine γ f (ArrowT (BangT Inf A) B) → Fine γ e (BagT A) → Fine γ (at o (MapE f e)) (BagT B)
fine_map {γ} {f} {e} {A} {B} g p q =
    let c = has_of p in let xs = bag_of q in let r = maps_has A B c.0 g c.2 xs.0 xs.2 in let k = both c.1 xs.1 in let m = k.0 + r.0 in
    fine_by (BagV r.1, (suc m, (c.0, xs.0, r.1, raise k.0 m (omega arith) γ f c.0 k.1, raise k.0 m (omega arith) γ e _ k.2, maps_up _ _ (raise r.0 m (omega arith)) c.0 xs.0 r.1 r.2, refl)))
    (λ n v h. rw h.6 (typed_bag (maps_typed A B n h.0 (p.all n _ h.3) h.1 h.2 (items (q.all n _ h.4)) h.5)))

pub fine_split : {γ : Env} {f e : Term} {A : Ty} {o : Span} → Fine γ f (ArrowT (BangT Inf A) BoolT) → Fine γ e (BagT A) → Fine γ (at o (SplitE f e)) (TensorT (BagT A) (BagT A))
fine_split {γ} {f} {e} {A} p q =
    let c = has_of p in let xs = bag_of q in let r = splits_has A c.0 c.2 xs.0 xs.2 in let k = both c.1 xs.1 in let m = k.0 + r.0 in
    fine_by (PairV (BagV r.1) (BagV r.2), (suc m, (c.0, xs.0, r.1, r.2, raise k.0 m (omega arith) γ f c.0 k.1, raise k.0 m (omega arith) γ e _ k.2, splits_up _ _ (raise r.0 m (omega arith)) c.0 xs.0 r.1 r.2 r.3, refl)))
    (λ n v h. let t = splits_typed (MeansIn n) (λ x. Typed A (value_of x)) h.0 h.1 h.2 h.3 (items (q.all n _ h.5)) h.6 in rw h.7 (typed_pair (typed_bag t.0) (typed_bag t.1)))

pub fine_filter : {γ : Env} {f e : Term} {A : Ty} {o : Span} → Fine γ f (ArrowT (BangT Inf A) BoolT) → Fine γ e (BagT A) → Fine γ (at o (FilterE f e)) (BagT A)
fine_filter {γ} {f} {e} {A} p q =
    let c = has_of p in let xs = bag_of q in let r = splits_has A c.0 c.2 xs.0 xs.2 in let k = both c.1 xs.1 in let m = k.0 + r.0 in
    fine_by (BagV r.1, (suc m, (c.0, xs.0, r.1, r.2, raise k.0 m (omega arith) γ f c.0 k.1, raise k.0 m (omega arith) γ e _ k.2, splits_up _ _ (raise r.0 m (omega arith)) c.0 xs.0 r.1 r.2 r.3, refl)))
    (λ n v h. let t = splits_typed (MeansIn n) (λ x. Typed A (value_of x)) h.0 h.1 h.2 h.3 (items (q.all n _ h.5)) h.6 in rw h.7 (typed_bag t.0))
