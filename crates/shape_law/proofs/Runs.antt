-- Where a term has a shape by a walk of some height, it has a value that fits, by a derivation no higher.
use Rattle.std.proofs.Common.{inl, inr, refl, subst}
use Rattle.std.proofs.lemmas.List.Elements.{All-cons, All-head, All-nil, All-tail}
use Rattle.std.specs.Int.{int_max, int_min}
use Rattle.std.specs.Prelude.{All, Bool, List, [], bytes_eq, int_le, length, pos, suc, zero, ℕ, ℤ, ◌*ℤ◌, ◌++◌, ◌+ℤ◌, ◌-ℤ◌, ◌∷◌}
use Rattle.fz_frac.specs.Distance.{Inf}
use Rattle.fz_ast.specs.Limits.{IsNumber}
use Rattle.fz_ast.specs.Terms.{AppE, BangE, CaseE, ClipE, EqE, FilterE, FnE, FstE, FunE, GreatestE, IfE, InlE, InrE, LeE, LeastE, LetBangE, LetE, LetPairE, MapE, MinusE, Name, NumE, PairE, PlusE, SizeE, SndE, SplitE, SumE, Term, TextE, TimesE, UnionE, UnitE, VarE, WithE, at}
use Rattle.fz_ast.specs.declared.span.Span.{Span}
use Rattle.fz_ast.specs.Types.{ArrowT, BagT, BangT, BoolT, NumT, SumT, TensorT, TextT, Ty, UnitT, WithT}
use Rattle.linear_types.proofs.Written.{bang_parts, sum_parts, tensor_parts, written}
use Rattle.linear_types.specs.Sensitivities.{Sensitivities}
use Rattle.linear_types.specs.Typing.{AllTypes, Context, Typing, Under, is_app, is_at_most, is_bang, is_case, is_clip, is_eq_num, is_eq_text, is_filter, is_fn, is_fst, is_fun, is_greatest, is_if, is_inl, is_inr, is_least, is_let, is_let_bang, is_let_pair, is_map, is_minus, is_num, is_pair, is_plus, is_size, is_snd, is_split, is_sum, is_text, is_times, is_union, is_unit, is_var, is_with}
use Rattle.metric_values.specs.Distances.{same_number}
use Rattle.metric_values.specs.Values.{BagV, BangV, Env, Flat, FnV, FunV, InlV, InrV, NumV, PairV, TextV, UnitV, Value, truth, value_of}
use Rattle.metric_law.proofs.Fine.{append_all, clamped, clip_fits, flat, greatest_fits, least_fits, numbers, splits_typed, typed_truth}
use Rattle.metric_law.proofs.Flatness.{Ground, IsFlat, elements_flat, ground_of, results_flat}
use Rattle.metric_law.specs.Means.{Applies, Maps, MeansIn, Splits, apply, apply_fn}
use Rattle.metric_values.specs.Numbers.{clamp, clip, clipped_sum}
use Rattle.metric_law.specs.Near.{Typed, TypedBag, TypedNum, TypedPair, TypedSum, TypedText, TypedUnit, typed_bag, typed_bang, typed_inl, typed_inr, typed_num, typed_pair, typed_text, typed_unit}
use Rattle.shape_law.proofs.Fits.{Fits, FitsEnv, as_wide, bang_fits, find_fits, fits_also, fits_bang, fits_fn, fits_fun, fits_ground, ground_typed, halves_fit, held_fits, pair_fits, sides_fit, with_fits}
use Rattle.shape_law.specs.ShapeIn.{Enters, ShapeIn, Visits}
use Rattle.shape_law.specs.Shapes.{Also, Shape, Shapes, Wide, side_shape, wider}

-- a value by a derivation of at most this height, of this shape and type
pub record Runs (n : ℕ) (γ : Env) (e : Term) (s : Shape) (A : Ty) : Type 0 where
  pub value : Value
  pub does : MeansIn n γ e value
  pub fits : Fits s A value

-- what is to be shown, at the height below
abbrev pub Below : ℕ → Type 0
Below n = (Γ : Context) → AllTypes Γ → (t : Term) (A : Ty) (D : Sensitivities) → Typing Γ t A D → (σ : Shapes) (γ : Env) (s : Shape) → FitsEnv σ Γ γ → ShapeIn n σ t s → Runs n γ t s A

-- parts of ground types

typed_run : {n : ℕ} {γ : Env} {e : Term} {s : Shape} {A : Ty} → Ground A → Runs n γ e s A → (v : Value) × MeansIn n γ e v × Typed A v
typed_run {s = s} {A = A} g r = (r.value, r.does, ground_typed A s r.value g r.fits)

pub num_run : {n : ℕ} {γ : Env} {e : Term} {s : Shape} → Runs n γ e s NumT → (z : ℤ) × MeansIn n γ e (NumV z) × IsNumber z
num_run {n} {γ} {e} r = let t = typed_run tt r in go t.2 t.1
  where
    go : {v : Value} → TypedNum v → MeansIn n γ e v → (z : ℤ) × MeansIn n γ e (NumV z) × IsNumber z
    go (typed_num {z = z} l) h = (z, h, l)

text_run : {n : ℕ} {γ : Env} {e : Term} {s : Shape} → Runs n γ e s TextT → (t : List ℕ) × MeansIn n γ e (TextV t)
text_run {n} {γ} {e} r = let t = typed_run tt r in go t.2 t.1
  where
    go : {v : Value} → TypedText v → MeansIn n γ e v → (t : List ℕ) × MeansIn n γ e (TextV t)
    go (typed_text {s = t} l) h = (t, h)

-- two numbers
nums_run : {n : ℕ} {γ : Env} {e : Term} {s : Shape} → Runs n γ e s (WithT NumT NumT) → (y z : ℤ) × MeansIn n γ e (PairV (NumV y) (NumV z)) × IsNumber y × IsNumber z
nums_run {n} {γ} {e} r = let t = typed_run (tt, tt) r in go t.2 t.1
  where
    go : {v : Value} → TypedPair TypedNum TypedNum v → MeansIn n γ e v → (y z : ℤ) × MeansIn n γ e (PairV (NumV y) (NumV z)) × IsNumber y × IsNumber z
    go (typed_pair (typed_num {z = y} k) (typed_num {z = z} l)) h = (y, z, h, k, l)

bag_run : {n : ℕ} {γ : Env} {e : Term} {s : Shape} {A : Ty} → Runs n γ e s (BagT A) → (xs : List Flat) × MeansIn n γ e (BagV xs) × All (λ x. Typed A (value_of x)) xs
bag_run {n} {γ} {e} {A = A} r = let t = typed_run tt r in go t.2 t.1
  where
    go : {v : Value} → TypedBag (Typed A) v → MeansIn n γ e v → (xs : List Flat) × MeansIn n γ e (BagV xs) × All (λ x. Typed A (value_of x)) xs
    go (typed_bag {xs = xs} t) h = (xs, h, t)

-- results of ground types

gives_num : {w i d : ℕ} (z : ℤ) → IsNumber z → Fits (Wide w i d) NumT (NumV z)
gives_num z l = fits_ground tt (typed_num l)

gives_clamped : {w i d : ℕ} (z : ℤ) → Fits (Wide w i d) NumT (NumV (clamp z))
gives_clamped z = gives_num (clamp z) (clamped z)

gives_truth : {w i d : ℕ} (b : Bool) → Fits (Wide w i d) BoolT (truth b)
gives_truth b = fits_ground (tt, tt) (typed_truth b)

inl_fits : (w i d : ℕ) (A T : Ty) (s : Shape) (v : Value) → Ground A → Ground T → Fits s A v → Fits (Wide w i d) (SumT A T) (InlV v)
inl_fits w i d A T s v g h f = fits_ground (g, h) (typed_inl (ground_typed A s v g f))

inr_fits : (w i d : ℕ) (A T : Ty) (s : Shape) (v : Value) → Ground A → Ground T → Fits s A v → Fits (Wide w i d) (SumT T A) (InrV v)
inr_fits w i d A T s v g h f = fits_ground (h, g) (typed_inr (ground_typed A s v g f))

-- a sum's type is ground, since no other shape fits it
sum_ground : {s : Shape} {A B : Ty} {v : Value} → Fits s (SumT A B) v → Ground A × Ground B × TypedSum (Typed A) (Typed B) v
sum_ground (fits_ground g t) = (g.0, g.1, t)

-- functions

-- a function that is entered without data has a result at that height
pub enters_run : {n : ℕ} (c u r : Shape) (A B : Ty) (v w : Value) → Below n → Enters (ShapeIn n) c u r → Fits c (ArrowT A B) v → Fits u A w → (t : Value) × Applies (MeansIn n) v w t × Fits r B t
enters_run c u r A B v w rec h (fits_ground g t) a = absurd g
enters_run _ u r A B _ w rec h (fits_fun {e = e} k p f) a =
    let q = rec _ k e B _ p _ _ r (fits_also a f) h in (q.value, apply q.does, q.fits)
enters_run _ _ r _ B _ _ rec h (fits_fn {e = e} k p f) (fits_bang a) =
    let q = rec _ k e B _ p _ _ r (fits_also a f) h in (q.value, apply_fn q.does, q.fits)
enters_run _ _ r _ B _ _ rec h (fits_fn {e = e} k p f) (fits_ground g (typed_bang t)) =
    let q = rec _ k e B _ p _ _ r (fits_also (fits_ground g t) f) h in (q.value, apply_fn q.does, q.fits)

-- branches

case_run : {n : ℕ} {o : Span} {Γ : Context} {σ : Shapes} {γ : Env} {x y : Name} {e : Term} {A B C : Ty} {D E : Sensitivities} (a b : Term) (c p q : Shape) (v : Value)
    → Below n → AllTypes Γ → FitsEnv σ Γ γ → AllTypes (Under x A Γ) → AllTypes (Under y B Γ) → Typing (Under x A Γ) a C D → Typing (Under y B Γ) b C E → Ground C
    → MeansIn n γ e v → Ground A × Ground B × TypedSum (Typed A) (Typed B) v
    → ShapeIn n (Also x (side_shape c) σ) a p → ShapeIn n (Also y (side_shape c) σ) b q → Runs (suc n) γ (at o (CaseE e x a y b)) (wider p q) C
case_run {n} {o} {Γ} {σ} {γ} {x} {y} {e} {A} {B} {C} a b c p q v rec w f wa wb ta tb g m s ha hb = go s.2 m
  where
    go : {v : Value} → TypedSum (Typed A) (Typed B) v → MeansIn n γ e v → Runs (suc n) γ (at o (CaseE e x a y b)) (wider p q) C
    go (typed_inl {a = u} t) m = let o = rec _ wa a C _ ta _ _ p (fits_also (fits_ground s.0 t) f) ha in record { value = o.value; does = inl (u, m, o.does); fits = as_wide _ _ _ C p o.value g o.fits }
    go (typed_inr {a = u} t) m = let o = rec _ wb b C _ tb _ _ q (fits_also (fits_ground s.1 t) f) hb in record { value = o.value; does = inr (u, m, o.does); fits = as_wide _ _ _ C q o.value g o.fits }

if_run : {n : ℕ} {o : Span} {γ : Env} {e a b : Term} {C : Ty} {c p q : Shape} → Ground C → Runs n γ e c BoolT → Runs n γ a p C → Runs n γ b q C → Runs (suc n) γ (at o (IfE e a b)) (wider p q) C
if_run {n} {o} {γ} {e} {a} {b} {C} {c} {p} {q} g r i j = let t = typed_run (tt, tt) r in go t.2 t.1
  where
    go : {v : Value} → TypedSum TypedUnit TypedUnit v → MeansIn n γ e v → Runs (suc n) γ (at o (IfE e a b)) (wider p q) C
    go (typed_inl typed_unit) m = record { value = i.value; does = inl (m, i.does); fits = as_wide _ _ _ C p i.value g i.fits }
    go (typed_inr typed_unit) m = record { value = j.value; does = inr (m, j.does); fits = as_wide _ _ _ C q j.value g j.fits }

-- bag primitives

pub flat_ground : (A : Ty) → IsFlat A → Ground A
flat_ground NumT g = tt
flat_ground TextT g = tt
flat_ground UnitT g = tt
flat_ground (TensorT A B) g = (flat_ground A g.0, flat_ground B g.1)
flat_ground (WithT A B) g = (flat_ground A g.0, flat_ground B g.1)
flat_ground (SumT A B) g = (flat_ground A g.0, flat_ground B g.1)
flat_ground (ArrowT A B) g = absurd g
flat_ground (BangT r A) g = flat_ground A g.1
flat_ground (BagT A) g = absurd g

-- each element as the function takes it
element_fits : (A : Ty) (x : Flat) → IsFlat A → Typed A (value_of x) → Fits (Wide 0 0 0) (BangT Inf A) (BangV (value_of x))
element_fits A x g t = fits_ground (flat_ground A g) (typed_bang t)

-- a function that is entered once at `Wide 0 0 0` splits each list at that height
splits_run : (n : ℕ) (A : Ty) (c r : Shape) (v : Value) → Below n → IsFlat A → Enters (ShapeIn n) c (Wide 0 0 0) r → Fits c (ArrowT (BangT Inf A) BoolT) v
    → (xs : List Flat) → All (λ x. Typed A (value_of x)) xs → (ys zs : List Flat) × Splits (MeansIn n) v xs ys zs
splits_run n A c r v rec g en fc [] t = ([], [], (refl, refl))
splits_run n A c r v rec g en fc (x ∷ xs) t =
    one (enters_run c (Wide 0 0 0) r (BangT Inf A) BoolT v (BangV (value_of x)) rec en fc (element_fits A x g (All-head P x xs t))) (splits_run n A c r v rec g en fc xs (All-tail P x xs t))
  where
    P : Flat → Type 0
    P = λ x. Typed A (value_of x)

    two : (q : Value) → TypedSum TypedUnit TypedUnit q → Applies (MeansIn n) v (BangV (value_of x)) q → ((ys zs : List Flat) × Splits (MeansIn n) v xs ys zs) → (ys zs : List Flat) × Splits (MeansIn n) v (x ∷ xs) ys zs
    two _ (typed_inl typed_unit) a m = (x ∷ m.0, m.1, inl (m.0, a, m.2, refl))
    two _ (typed_inr typed_unit) a m = (m.0, x ∷ m.1, inr (m.1, a, m.2, refl))

    one : ((q : Value) × Applies (MeansIn n) v (BangV (value_of x)) q × Fits r BoolT q) → ((ys zs : List Flat) × Splits (MeansIn n) v xs ys zs) → (ys zs : List Flat) × Splits (MeansIn n) v (x ∷ xs) ys zs
    one q m = two q.0 (ground_typed BoolT r q.0 (tt, tt) q.2) q.1 m

-- and maps each, to typed elements
maps_run : (n : ℕ) (A B : Ty) (c r : Shape) (v : Value) → Below n → IsFlat A → IsFlat B → Enters (ShapeIn n) c (Wide 0 0 0) r → Fits c (ArrowT (BangT Inf A) B) v
    → (xs : List Flat) → All (λ x. Typed A (value_of x)) xs → (ys : List Flat) × Maps (MeansIn n) v xs ys × All (λ y. Typed B (value_of y)) ys
maps_run n A B c r v rec g h en fc [] t = ([], refl, All-nil (λ y. Typed B (value_of y)))
maps_run n A B c r v rec g h en fc (x ∷ xs) t =
    one (enters_run c (Wide 0 0 0) r (BangT Inf A) B v (BangV (value_of x)) rec en fc (element_fits A x g (All-head P x xs t))) (maps_run n A B c r v rec g h en fc xs (All-tail P x xs t))
  where
    P : Flat → Type 0
    P = λ x. Typed A (value_of x)

    Q : Flat → Type 0
    Q = λ y. Typed B (value_of y)

    one : ((q : Value) × Applies (MeansIn n) v (BangV (value_of x)) q × Fits r B q) → ((ys : List Flat) × Maps (MeansIn n) v xs ys × All Q ys) → (ys : List Flat) × Maps (MeansIn n) v (x ∷ xs) ys × All Q ys
    one q m =
        let k = ground_typed B r q.0 (flat_ground B h) q.2 in
        let y = flat B q.0 h k in
        (y.0 ∷ m.0, (y.0, m.0, subst (λ v'. Applies (MeansIn n) v (BangV (value_of x)) v') y.1 q.1, m.1, refl), All-cons Q y.0 m.0 (subst (Typed B) y.1 k) m.2)

map_run : {n : ℕ} {o : Span} {γ : Env} {f e : Term} {A B : Ty} {c q : Shape} (w i d : ℕ) → Below n → IsFlat A → IsFlat B → Runs n γ f c (ArrowT (BangT Inf A) B) → Runs n γ e q (BagT A) → Visits (ShapeIn n) c → Runs (suc n) γ (at o (MapE f e)) (Wide w i d) (BagT B)
map_run {n} {A = A} {B = B} {c = c} w i d rec g h p q en =
    let b = bag_run q in
    let k = maps_run n A B c en.0 p.value rec g h en.1 p.fits b.0 b.2 in
    record { value = BagV k.0; does = (p.value, b.0, k.0, p.does, b.1, k.1, refl); fits = fits_ground tt (typed_bag k.2) }

filter_run : {n : ℕ} {o : Span} {γ : Env} {f e : Term} {A : Ty} {c q : Shape} (w i d : ℕ) → Below n → IsFlat A → Runs n γ f c (ArrowT (BangT Inf A) BoolT) → Runs n γ e q (BagT A) → Visits (ShapeIn n) c → Runs (suc n) γ (at o (FilterE f e)) (Wide w i d) (BagT A)
filter_run {n} {A = A} {c = c} w i d rec g p q en =
    let b = bag_run q in
    let k = splits_run n A c en.0 p.value rec g en.1 p.fits b.0 b.2 in
    let u = splits_typed (MeansIn n) (λ x. Typed A (value_of x)) p.value b.0 k.0 k.1 b.2 k.2 in
    record { value = BagV k.0; does = (p.value, b.0, k.0, k.1, p.does, b.1, k.2, refl); fits = fits_ground tt (typed_bag u.0) }

split_run : {n : ℕ} {o : Span} {γ : Env} {f e : Term} {A : Ty} {c q : Shape} (w i d : ℕ) → Below n → IsFlat A → Runs n γ f c (ArrowT (BangT Inf A) BoolT) → Runs n γ e q (BagT A) → Visits (ShapeIn n) c → Runs (suc n) γ (at o (SplitE f e)) (Wide w i d) (TensorT (BagT A) (BagT A))
split_run {n} {A = A} {c = c} w i d rec g p q en =
    let b = bag_run q in
    let k = splits_run n A c en.0 p.value rec g en.1 p.fits b.0 b.2 in
    let u = splits_typed (MeansIn n) (λ x. Typed A (value_of x)) p.value b.0 k.0 k.1 b.2 k.2 in
    record { value = PairV (BagV k.0) (BagV k.1); does = (p.value, b.0, k.0, k.1, p.does, b.1, k.2, refl); fits = fits_ground (tt, tt) (typed_pair (typed_bag u.0) (typed_bag u.1)) }

-- where a term has a shape at a height, it runs at that height
pub run : (n : ℕ) → Below n
run zero Γ w t A D p σ γ s f h = absurd h
run (suc n) Γ w (at _ (VarE x)) A D (is_var b) σ γ s f h = let r = find_fits b f in record { value = r.0; does = r.1; fits = rw h r.2 }
run (suc n) Γ w (at _ (NumE z)) _ _ (is_num l) σ γ s f h = record { value = NumV z; does = refl; fits = rw h (gives_num z l) }
run (suc n) Γ w (at _ (TextE t)) _ _ (is_text l) σ γ s f h = record { value = TextV t; does = refl; fits = rw h (fits_ground tt (typed_text l)) }
run (suc n) Γ w (at _ UnitE) _ _ is_unit σ γ s f h = record { value = UnitV; does = refl; fits = rw h (fits_ground tt typed_unit) }
run (suc n) Γ w (at _ (PairE a b)) _ _ (is_pair {A = A} {B = B} p q) σ γ s f h =
    let y = run n Γ w a A _ p σ γ h.0 f h.2 in let z = run n Γ w b B _ q σ γ h.1 f h.3 in
    record { value = PairV y.value z.value; does = (y.value, z.value, y.does, z.does, refl); fits = rw h.4 (pair_fits h.0 h.1 A B y.value z.value y.fits z.fits) }
run (suc n) Γ w (at _ (WithE a b)) _ _ (is_with {A = A} {B = B} p q) σ γ s f h =
    let y = run n Γ w a A _ p σ γ h.0 f h.2 in let z = run n Γ w b B _ q σ γ h.1 f h.3 in
    record { value = PairV y.value z.value; does = (y.value, z.value, y.does, z.does, refl); fits = rw h.4 (with_fits h.0 h.1 A B y.value z.value y.fits z.fits) }
run (suc n) Γ w (at _ (FstE e)) A _ (is_fst {B = B} p) σ γ s f h =
    let y = run n Γ w e (WithT A B) _ p σ γ h.0 f h.1 in let k = sides_fit y.fits in
    record { value = k.first; does = (k.second, subst (MeansIn n γ e) k.is y.does); fits = rw h.2 k.left }
run (suc n) Γ w (at _ (SndE e)) B _ (is_snd {A = A} p) σ γ s f h =
    let y = run n Γ w e (WithT A B) _ p σ γ h.0 f h.1 in let k = sides_fit y.fits in
    record { value = k.second; does = (k.first, subst (MeansIn n γ e) k.is y.does); fits = rw h.2 k.right }
run (suc n) Γ w (at _ (LetPairE x y e b)) C _ (is_let_pair {A = A} {B = B} p q) σ γ s f h =
    let u = run n Γ w e (TensorT A B) _ p σ γ h.0 f h.1 in
    let k = halves_fit u.fits in
    let t = tensor_parts A B (written w p) in
    let z = run n _ (t.1, (t.0, w)) b C _ q _ _ s (fits_also k.right (fits_also k.left f)) h.2 in
    record { value = z.value; does = (k.first, k.second, subst (MeansIn n γ e) k.is u.does, z.does); fits = z.fits }
run (suc n) Γ w (at _ (InlE _ T e)) _ _ (is_inl {A = A} p k g g') σ γ s f h =
    let y = run n Γ w e A _ p σ γ h.0 f h.1 in
    record { value = InlV y.value; does = (y.value, y.does, refl); fits = rw h.2 (inl_fits _ _ _ A T h.0 y.value (ground_of A g') (ground_of T g) y.fits) }
run (suc n) Γ w (at _ (InrE _ T e)) _ _ (is_inr {A = A} p k g g') σ γ s f h =
    let y = run n Γ w e A _ p σ γ h.0 f h.1 in
    record { value = InrV y.value; does = (y.value, y.does, refl); fits = rw h.2 (inr_fits _ _ _ A T h.0 y.value (ground_of A g') (ground_of T g) y.fits) }
run (suc n) Γ w (at _ (CaseE e x a y b)) C _ (is_case {A = A} {B = B} p q r g) σ γ s f h =
    let u = run n Γ w e (SumT A B) _ p σ γ h.0 f h.3 in
    let t = sum_parts A B (written w p) in
    rw h.6 (case_run a b h.0 h.1 h.2 u.value (run n) w f (t.0, w) (t.1, w) q r (ground_of C g) u.does (sum_ground u.fits) h.4 h.5)
run (suc n) Γ w (at _ (IfE e a b)) C _ (is_if p q r g) σ γ s f h =
    rw h.6 (if_run (ground_of C g) (run n Γ w e BoolT _ p σ γ h.0 f h.3) (run n Γ w a C _ q σ γ h.1 f h.4) (run n Γ w b C _ r σ γ h.2 f h.5))
run (suc n) Γ w (at _ (FunE x _ T e)) _ _ (is_fun p k l) σ γ s f h = record { value = FunV x e γ; does = refl; fits = rw h (fits_fun (k, w) p f) }
run (suc n) Γ w (at _ (FnE x _ T e)) _ _ (is_fn p k) σ γ s f h = record { value = FnV x e γ; does = refl; fits = rw h (fits_fn (k, w) p f) }
run (suc n) Γ w (at _ (AppE c a)) B _ (is_app {A = A} p q) σ γ s f h =
    let y = run n Γ w c (ArrowT A B) _ p σ γ h.0 f h.2 in let z = run n Γ w a A _ q σ γ h.1 f h.3 in
    let k = enters_run h.0 h.1 s A B y.value z.value (run n) h.4 y.fits z.fits in
    record { value = k.0; does = (y.value, z.value, y.does, z.does, k.1); fits = k.2 }
run (suc n) Γ w (at _ (BangE r e)) _ _ (is_bang {A = A} p l) σ γ s f h =
    let y = run n Γ w e A _ p σ γ h.0 f h.1 in
    record { value = BangV y.value; does = (y.value, y.does, refl); fits = rw h.2 (bang_fits h.0 r A y.value y.fits) }
run (suc n) Γ w (at _ (LetBangE x e b)) B _ (is_let_bang {r = r} {A = A} p q) σ γ s f h =
    let y = run n Γ w e (BangT r A) _ p σ γ h.0 f h.1 in
    let k = held_fits y.fits in
    let z = run n _ ((bang_parts r A (written w p)).1, w) b B _ q _ _ s (fits_also k.2 f) h.2 in
    record { value = z.value; does = (k.0, subst (MeansIn n γ e) k.1 y.does, z.does); fits = z.fits }
run (suc n) Γ w (at _ (LetE x e b)) B _ (is_let {A = A} p q) σ γ s f h =
    let y = run n Γ w e A _ p σ γ h.0 f h.1 in
    let z = run n _ (written w p, w) b B _ q _ _ s (fits_also y.fits f) h.2 in
    record { value = z.value; does = (y.value, y.does, z.does); fits = z.fits }
run (suc n) Γ w (at _ (PlusE a b)) _ _ (is_plus p q) σ γ s f h =
    let y = num_run (run n Γ w a NumT _ p σ γ h.0 f h.2) in let z = num_run (run n Γ w b NumT _ q σ γ h.1 f h.3) in
    record { value = NumV (clamp (y.0 +ℤ z.0)); does = (y.0, z.0, y.1, z.1, refl); fits = rw h.4 (gives_clamped (y.0 +ℤ z.0)) }
run (suc n) Γ w (at _ (MinusE a b)) _ _ (is_minus p q) σ γ s f h =
    let y = num_run (run n Γ w a NumT _ p σ γ h.0 f h.2) in let z = num_run (run n Γ w b NumT _ q σ γ h.1 f h.3) in
    record { value = NumV (clamp (y.0 -ℤ z.0)); does = (y.0, z.0, y.1, z.1, refl); fits = rw h.4 (gives_clamped (y.0 -ℤ z.0)) }
run (suc n) Γ w (at _ (TimesE k e)) _ _ (is_times p) σ γ s f h =
    let z = num_run (run n Γ w e NumT _ p σ γ h.0 f h.1) in
    record { value = NumV (clamp (k *ℤ z.0)); does = (z.0, z.1, refl); fits = rw h.2 (gives_clamped (k *ℤ z.0)) }
run (suc n) Γ w (at _ (LeE a b)) _ _ (is_at_most p q) σ γ s f h =
    let y = num_run (run n Γ w a NumT _ p σ γ h.0 f h.2) in let z = num_run (run n Γ w b NumT _ q σ γ h.1 f h.3) in
    record { value = truth (int_le y.0 z.0); does = (y.0, z.0, y.1, z.1, refl); fits = rw h.4 (gives_truth (int_le y.0 z.0)) }
run (suc n) Γ w (at _ (EqE a b)) _ _ (is_eq_num p q) σ γ s f h =
    let y = num_run (run n Γ w a NumT _ p σ γ h.0 f h.2) in let z = num_run (run n Γ w b NumT _ q σ γ h.1 f h.3) in
    record { value = truth (same_number y.0 z.0); does = inl (y.0, z.0, y.1, z.1, refl); fits = rw h.4 (gives_truth (same_number y.0 z.0)) }
run (suc n) Γ w (at _ (EqE a b)) _ _ (is_eq_text p q) σ γ s f h =
    let y = text_run (run n Γ w a TextT _ p σ γ h.0 f h.2) in let z = text_run (run n Γ w b TextT _ q σ γ h.1 f h.3) in
    record { value = truth (bytes_eq y.0 z.0); does = inr (y.0, z.0, y.1, z.1, refl); fits = rw h.4 (gives_truth (bytes_eq y.0 z.0)) }
run (suc n) Γ w (at _ (ClipE lo hi e)) _ _ (is_clip p l l') σ γ s f h =
    let z = num_run (run n Γ w e NumT _ p σ γ h.0 f h.1) in
    record { value = NumV (clip lo hi z.0); does = (z.0, z.1, refl); fits = rw h.2 (gives_num (clip lo hi z.0) (clip_fits lo hi z.0 l l' z.2)) }
run (suc n) Γ w (at _ (LeastE e)) _ _ (is_least p) σ γ s f h =
    let k = nums_run (run n Γ w e (WithT NumT NumT) _ p σ γ h.0 f h.1) in
    record { value = NumV (int_min k.0 k.1); does = (k.0, k.1, k.2, refl); fits = rw h.2 (gives_num (int_min k.0 k.1) (least_fits k.0 k.1 k.3 k.4)) }
run (suc n) Γ w (at _ (GreatestE e)) _ _ (is_greatest p) σ γ s f h =
    let k = nums_run (run n Γ w e (WithT NumT NumT) _ p σ γ h.0 f h.1) in
    record { value = NumV (int_max k.0 k.1); does = (k.0, k.1, k.2, refl); fits = rw h.2 (gives_num (int_max k.0 k.1) (greatest_fits k.0 k.1 k.3 k.4)) }
run (suc n) Γ w (at _ (SizeE e)) _ _ (is_size {A = A} p) σ γ s f h =
    let b = bag_run (run n Γ w e (BagT A) _ p σ γ h.0 f h.1) in
    record { value = NumV (clamp (pos (length b.0))); does = (b.0, b.1, refl); fits = rw h.2 (gives_clamped (pos (length b.0))) }
run (suc n) Γ w (at _ (SumE lo hi e)) _ _ (is_sum p) σ γ s f h =
    let b = bag_run (run n Γ w e (BagT NumT) _ p σ γ h.0 f h.1) in
    let zs = numbers b.0 b.2 in
    let m = subst (λ xs. MeansIn n γ e (BagV xs)) zs.1 b.1 in
    record { value = NumV (clamp (clipped_sum lo hi zs.0)); does = (zs.0, m, refl); fits = rw h.2 (gives_clamped (clipped_sum lo hi zs.0)) }
run (suc n) Γ w (at _ (UnionE a b)) _ _ (is_union {A = A} p q) σ γ s f h =
    let x = bag_run (run n Γ w a (BagT A) _ p σ γ h.0 f h.2) in let y = bag_run (run n Γ w b (BagT A) _ q σ γ h.1 f h.3) in
    record { value = BagV (x.0 ++ y.0); does = (x.0, y.0, x.1, y.1, refl); fits = rw h.6 (fits_ground tt (typed_bag (append_all (λ x. Typed A (value_of x)) x.0 y.0 x.2 y.2))) }
run (suc n) Γ w (at _ (MapE c b)) _ _ (is_map {A = A} {B = B} p g q) σ γ s f h =
    rw h.7 (map_run _ h.5 h.6 (run n) (elements_flat A (written w q)) (results_flat (BangT Inf A) B (written w p) g) (run n Γ w c (ArrowT (BangT Inf A) B) _ p σ γ h.0 f h.2) (run n Γ w b (BagT A) _ q σ γ h.1 f h.3) h.4)
run (suc n) Γ w (at _ (FilterE c b)) _ _ (is_filter {A = A} p q) σ γ s f h =
    rw h.7 (filter_run _ h.5 h.6 (run n) (elements_flat A (written w q)) (run n Γ w c (ArrowT (BangT Inf A) BoolT) _ p σ γ h.0 f h.2) (run n Γ w b (BagT A) _ q σ γ h.1 f h.3) h.4)
run (suc n) Γ w (at _ (SplitE c b)) _ _ (is_split {A = A} p q) σ γ s f h =
    rw h.7 (split_run _ h.5 h.6 (run n) (elements_flat A (written w q)) (run n Γ w c (ArrowT (BangT Inf A) BoolT) _ p σ γ h.0 f h.2) (run n Γ w b (BagT A) _ q σ γ h.1 f h.3) h.4)
