-- What near values are near at.
use Rattle.std.proofs.Common.{ap, arith, refl}
use Rattle.std.proofs.lemmas.Int.{clamps, ints}
use Rattle.std.specs.Prelude.{List, [], map, pos, ℕ, ℤ, ◌*◌, ◌+ℤ◌, ◌+◌, ◌<◌, ◌∷◌, ◌≡◌, ◌≤◌}
use Rattle.fz_frac.proofs.Laws.{add-comm, add-none, mul-none, none-add, none-least, ⊑-inf, ⊑-refl, ◌⊕◌, ◌⨾◌}
use Rattle.fz_frac.specs.Distance.{Distance, Fin, Inf, add, den, none, ◌⊑◌}
use Rattle.fz_ast.specs.Limits.{IsNumber}
use Rattle.fz_ast.specs.Types.{ArrowT, BagT, BangT, NumT, SumT, TensorT, TextT, Ty, UnitT, WithT}
use Rattle.metric_values.proofs.Metric.{gap_zero, no_divisor, whole, whole_none}
use Rattle.metric_values.specs.Distances.{gap}
use Rattle.metric_values.specs.Numbers.{clamp}
use Rattle.metric_values.specs.Values.{BangF, BangV, Flat, InlF, InlV, InrF, InrV, NumF, NumV, PairF, TextF, UnitF, Value, value_of}
use Rattle.term_meanings.proofs.Bags.{all_differ}
use Rattle.term_meanings.proofs.Flatness.{Ground, IsFlat}
use Rattle.term_meanings.specs.Near.{Near, NearNum, Typed, far_text, near_bag, near_bang, near_inl, near_inr, near_lr, near_num, near_pair, near_rl, near_text, near_unit, near_with, typed_bag, typed_bang, typed_inl, typed_inr, typed_num, typed_pair, typed_text, typed_unit}

pub near_more : (A : Ty) (v w : Value) {d d' : Distance} → Near A v w d → d ⊑ d' → Near A v w d'
near_more NumT _ _ (near_num h) k = near_num (h ⨾ k)
near_more TextT _ _ near_text k = near_text
near_more TextT _ _ (far_text h) k = far_text (h ⨾ k)
near_more UnitT _ _ near_unit k = near_unit
near_more (WithT A B) _ _ (near_with p q) k = near_with (near_more A _ _ p k) (near_more B _ _ q k)
near_more (TensorT A B) _ _ (near_pair c1 c2 p q h) k = near_pair c1 c2 p q (h ⨾ k)
near_more (SumT A B) _ _ (near_inl p) k = near_inl (near_more A _ _ p k)
near_more (SumT A B) _ _ (near_inr p) k = near_inr (near_more B _ _ p k)
near_more (SumT A B) _ _ (near_lr h) k = near_lr (h ⨾ k)
near_more (SumT A B) _ _ (near_rl h) k = near_rl (h ⨾ k)
near_more (ArrowT A B) _ _ f k = record { by = λ c a b ta tb n v w p q. near_more B v w (f.by c a b ta tb n v w p q) (⊑-refl c ⊕ k) }
near_more (BangT r A) _ _ (near_bang c p h) k = near_bang c p (h ⨾ k)
near_more (BagT A) _ _ (near_bag n p h) k = near_bag n p (h ⨾ k)

-- typed values of a ground type are near at inf
pub far : (A : Ty) (v w : Value) {d : Distance} → Ground A → Typed A v → Typed A w → Inf ⊑ d → Near A v w d
far NumT _ _ g (typed_num _) (typed_num _) h = near_num (⊑-inf _ ⨾ h)
far TextT _ _ g (typed_text _) (typed_text _) h = far_text h
far UnitT _ _ g typed_unit typed_unit h = near_unit
far (WithT A B) _ _ g (typed_pair a b) (typed_pair a' b') h = near_with (far A _ _ g.0 a a' h) (far B _ _ g.1 b b' h)
far (TensorT A B) _ _ g (typed_pair a b) (typed_pair a' b') h = near_pair Inf Inf (far A _ _ g.0 a a' (⊑-refl Inf)) (far B _ _ g.1 b b' (⊑-refl Inf)) h
far (SumT A B) _ _ g (typed_inl a) (typed_inl b) h = near_inl (far A _ _ g.0 a b h)
far (SumT A B) _ _ g (typed_inl a) (typed_inr b) h = near_lr h
far (SumT A B) _ _ g (typed_inr a) (typed_inl b) h = near_rl h
far (SumT A B) _ _ g (typed_inr a) (typed_inr b) h = near_inr (far B _ _ g.1 a b h)
far (ArrowT A B) _ _ g a b h = absurd g
far (BangT r A) _ _ g (typed_bang a) (typed_bang b) h = near_bang Inf (far A _ _ g a b (⊑-refl Inf)) (⊑-inf _ ⨾ h)
far (BagT A) _ _ g (typed_bag {xs = xs} a) (typed_bag {xs = ys} b) h = near_bag _ (all_differ xs ys) (⊑-inf _ ⨾ h)

-- numbers

pub sum_gap : (y z y' z' : ℤ) → gap (clamp (y +ℤ z)) (clamp (y' +ℤ z')) ≤ gap y y' + gap z z'
sum_gap y z y' z' = omega (arith, ints, clamps)

pub size_gap : (m n k : ℕ) → m ≤ n + k → n ≤ m + k → gap (clamp (pos m)) (clamp (pos n)) ≤ k
size_gap m n k h l = omega (arith, ints, clamps)

pub zero_gap : (z : ℤ) → gap z z ≤ 0
zero_gap z = omega (arith, ints)

pub sum_whole : (m n : ℕ) → add (Fin m 1) (Fin n 1) ⊑ Fin (m + n) 1
sum_whole m n = record { le = omega arith }

-- distance 0

-- a flat value is at distance 0 from itself
pub self : (A : Ty) (v : Value) → IsFlat A → Typed A v → Near A v v none
self NumT _ g (typed_num {z = z} _) = near_num (whole _ _ (zero_gap z))
self TextT _ g (typed_text _) = near_text
self UnitT _ g typed_unit = near_unit
self (TensorT A B) _ g (typed_pair a b) = near_pair none none (self A _ g.0 a) (self B _ g.1 b) (add-none none)
self (WithT A B) _ g (typed_pair a b) = near_with (self A _ g.0 a) (self B _ g.1 b)
self (SumT A B) _ g (typed_inl a) = near_inl (self A _ g.0 a)
self (SumT A B) _ g (typed_inr a) = near_inr (self B _ g.1 a)
self (ArrowT A B) v g t = absurd g
self (BangT r A) _ g (typed_bang a) = near_bang none (self A _ g.1 a) (mul-none r)
self (BagT A) v g t = absurd g

inf_none : {P : Type 0} → Inf ⊑ none → P
inf_none h = absurd h.le

-- and the one value at that distance is itself
pub equal : (A : Ty) (v w : Value) → IsFlat A → (d : Distance) → Near A v w d → d ⊑ none → v ≡ w
equal NumT _ _ g d (near_num {x = x} {y = y} h) z = ap NumV (gap_zero x y (whole_none _ (h ⨾ z)))
equal TextT _ _ g d near_text z = refl
equal TextT _ _ g d (far_text h) z = inf_none (h ⨾ z)
equal UnitT _ _ g d near_unit z = refl
equal (TensorT A B) _ _ g d (near_pair c1 c2 p q h) z =
    let a = equal A _ _ g.0 c1 p (none-add c1 ⨾ add-comm none c1 ⨾ (⊑-refl c1 ⊕ none-least c2) ⨾ h ⨾ z) in
    let b = equal B _ _ g.1 c2 q (none-add c2 ⨾ (none-least c1 ⊕ ⊑-refl c2) ⨾ h ⨾ z) in cc (a, b)
equal (WithT A B) _ _ g d (near_with p q) z = let a = equal A _ _ g.0 d p z in let b = equal B _ _ g.1 d q z in cc (a, b)
equal (SumT A B) _ _ g d (near_inl p) z = ap InlV (equal A _ _ g.0 d p z)
equal (SumT A B) _ _ g d (near_inr p) z = ap InrV (equal B _ _ g.1 d p z)
equal (SumT A B) _ _ g d (near_lr h) z = inf_none (h ⨾ z)
equal (SumT A B) _ _ g d (near_rl h) z = inf_none (h ⨾ z)
equal (ArrowT A B) v w g d p z = absurd g
equal (BangT r A) _ _ g d (near_bang c p h) z = ap BangV (equal A _ _ g.1 c p (no_divisor r c g.0 (h ⨾ z)))
equal (BagT A) v w g d p z = absurd g

pub val_inj : (x y : Flat) → value_of x ≡ value_of y → x ≡ y
val_inj (NumF a) (NumF b) h = cc
val_inj (TextF a) (TextF b) h = cc
val_inj UnitF UnitF h = refl
val_inj (PairF a b) (PairF a' b') h = let p = val_inj a a' (cc) in let q = val_inj b b' (cc) in cc
val_inj (InlF a) (InlF b) h = let p = val_inj a b (cc) in cc
val_inj (InrF a) (InrF b) h = let p = val_inj a b (cc) in cc
val_inj (BangF a) (BangF b) h = let p = val_inj a b (cc) in cc
val_inj x y h = cc

pub numbers_inj : (ys zs : List ℤ) → map NumF ys ≡ map NumF zs → ys ≡ zs
numbers_inj [] [] h = refl
numbers_inj (y ∷ ys) (z ∷ zs) h = let r = numbers_inj ys zs (cc) in cc
numbers_inj ys zs h = cc

-- numbers that are further apart aren't near, and small ones are numbers
pub no_num : (y z : ℤ) (m p q : ℕ) → m ≡ gap y z → p * 1 < m * den q → NearNum (NumV y) (NumV z) (Fin p q) → ⊥
no_num y z m p q e l (near_num h) = let k : gap y z * den q ≤ p * 1 = h.le in let i : m * den q ≤ p * 1 = rw e k in omega (arith, l, i)

pub small : (k : ℕ) → k ≤ 100 → IsNumber (pos k)
small k h = omega (arith, ints)
