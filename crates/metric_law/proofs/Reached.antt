-- The bounds of the typing rules are reached: two near environments at which the result moves by that much.
use Rattle.std.proofs.Common.{ap, arith, inl, inr, refl, sym}
use Rattle.std.proofs.lemmas.Bool.{cases_lt}
use Rattle.std.proofs.lemmas.Int.{clamps, ints}
use Rattle.std.proofs.lemmas.List.Elements.{All-cons, All-nil}
use Rattle.std.specs.Prelude.{All, Bool, List, [], codes, cond, false, map, max, pos, replicate, suc, true, unsigned_abs, zero, ℕ, ℤ, ◌*ℤ◌, ◌+ℤ◌, ◌*◌, ◌<◌, ◌∷◌, ◌≡◌, ◌≤ℤ◌, ◌≤◌, ◌⊎◌}
use native.Mathlib.Nat.{mul-le-mul_right}
use Rattle.fz_frac.proofs.Laws.{add-none, add-none_r, den_of, den_pos, greater-least, greater-left, greater-right, is_le-yes, mul-comm, mul-none, mul-one, none-least, one-mul, pos_mul, ⊑-inf, ⊑-refl, ◌⊗◌, ◌⨾◌}
use Rattle.fz_frac.specs.Distance.{Distance, Fin, Inf, den, greater, is_le, mul, none, one, quotient, ◌⊑◌}
use Rattle.fz_ast.specs.Limits.{IsBang, IsNumber}
use Rattle.fz_ast.specs.Terms.{Term}
use Rattle.fz_ast.specs.Types.{BagT, BangT, BoolT, NumT, SumT, TensorT, Ty}
use Rattle.linear_types.specs.Sensitivities.{Sensitivities, above_zero, scale}
use Rattle.linear_types.specs.Typing.{IsType, Typing, here, is_at_most, is_bang, is_case, is_eq_num, is_fn, is_let, is_let_bang, is_let_pair, is_map, is_num, is_sum, is_times, is_var, size_of, there, widest_of}
use Rattle.metric_values.specs.Distances.{gap}
use Rattle.metric_values.specs.Numbers.{clamp, clip, clipped_sum}
use Rattle.metric_values.specs.Pairing.{Differ, at_front, in_both, none_left, on_right}
use Rattle.metric_values.specs.Values.{BagV, BangV, Bind, Empty, Env, Flat, FnV, InlV, InrV, NumF, NumV, PairV, Value, truth, value_of}
use Rattle.metric_law.proofs.Bags.{sums}
use Rattle.metric_law.proofs.Nearness.{small}
use Rattle.metric_law.proofs.Needed.{is_n, num_type}
use Rattle.metric_law.specs.Law.{dot, near_bind, near_empty, typed_bind, typed_empty}
use Rattle.metric_law.specs.Means.{Maps, Means, MeansIn, apply_fn}
use Rattle.metric_law.specs.Near.{Near, NearBag, NearNum, Typed, near_bag, near_bang, near_inl, near_inr, near_lr, near_num, near_pair, near_rl, typed_bag, typed_bang, typed_inl, typed_inr, typed_num, typed_pair}
use Rattle.metric_law.specs.Reached.{Reached, at_least_one, at_most_zero, bang, equal_to_zero, first_name_of, left_case_of, let_bang_of, let_of, map_to_n, n, n_and_a_bag, n_of, right_case_of, second_name_of, sum_between, times_of, zero_is_equal}
use Rattle.metric_law.specs.Unsound.{Moves}

-- sums at one name

times_one : (k : Distance) → mul k one ⊑ k
times_one k = mul-comm k one ⨾ mul-one k

one_times : (k : Distance) → k ⊑ mul k one
one_times k = one-mul k ⨾ mul-comm one k

-- k times d
at_one : (k d : Distance) → dot (scale k (one ∷ [])) (d ∷ []) ⊑ mul k d
at_one k d = add-none_r _ ⨾ (times_one k ⊗ ⊑-refl d)

at_one_one : (k : Distance) → dot (scale k (one ∷ [])) (one ∷ []) ⊑ k
at_one_one k = at_one k one ⨾ times_one k

-- one name and two values of it

record Two (A : Ty) : Type 0 where
  left : Value
  right : Value
  apart : Distance
  is_type : IsType A
  left_typed : Typed A left
  right_typed : Typed A right
  near : Near A left right apart

abbrev with_n : Value → Env
with_n v = Bind (codes "n") v Empty

-- the term's values move by r, which is at least the bound
reaches : {A : Ty} (w : Two A) (e : Term) (B : Ty) (D : Sensitivities) (r : Distance) (u v : Value) → Typing (n_of A) e B D → Means (with_n w.left) e u → Means (with_n w.right) e v
    → dot D (w.apart ∷ []) ⊑ r → ((d : Distance) → Near B u v d → r ⊑ d) → Reached (n_of A) e (w.apart ∷ [])
reaches w e B D r u v t p q h move = (
  B,
  D,
  (w.is_type, tt),
  t,
  λ d below. record {
    left = with_n w.left;
    right = with_n w.right;
    left_typed = typed_bind w.left_typed typed_empty;
    right_typed = typed_bind w.right_typed typed_empty;
    near = near_bind w.near near_empty;
    left_value = u;
    right_value = v;
    left_means = p;
    right_means = q;
    too_far = λ m. below (h ⨾ move d m);
  },
)

abbrev zero_ : Value
zero_ = NumV (pos 0)

abbrev one_ : Value
one_ = NumV (pos 1)

zero_typed : Typed NumT zero_
zero_typed = typed_num (small 0 (omega arith))

one_typed : Typed NumT one_
one_typed = typed_num (small 1 (omega arith))

one_apart : Near NumT zero_ one_ one
one_apart = near_num (record { le = omega arith })

-- 0 and 1
abbrev numbers : Two NumT
numbers = record { left = zero_; right = one_; apart = one; is_type = num_type; left_typed = zero_typed; right_typed = one_typed; near = one_apart }

-- the result ![r] 0 moves to ![r] 1
moved : (r d : Distance) → Near (BangT r NumT) (BangV zero_) (BangV one_) d → r ⊑ d
moved r d (near_bang c (near_num h) l) = one_times r ⨾ (⊑-refl r ⊗ h) ⨾ l

-- x and ![r] n

moved_by_one : (d : Distance) → Near NumT zero_ one_ d → one ⊑ d
moved_by_one d (near_num h) = h

pub name_reached : Reached (n_of NumT) n (one ∷ [])
name_reached = reaches numbers n NumT _ one zero_ one_ is_n (1, refl) (1, refl) (add-none_r _ ⨾ times_one one) moved_by_one

pub bang_reached : (r : Distance) → IsBang r → Reached (n_of NumT) (bang r n) (one ∷ [])
bang_reached r b = reaches numbers (bang r n) (BangT r NumT) _ r (BangV zero_) (BangV one_) (is_bang is_n b) (2, (zero_, refl, refl)) (2, (one_, refl, refl)) (at_one_one r) (moved r)

pub let_reached : (r : Distance) → IsBang r → Reached (n_of NumT) (let_of r) (one ∷ [])
let_reached r b =
    reaches numbers (let_of r) (BangT r NumT) _ r (BangV zero_) (BangV one_) (is_let is_n (is_bang (is_var (here refl)) b)) (3, (zero_, refl, (zero_, refl, refl))) (3, (one_, refl, (one_, refl, refl)))
    (at_one_one (mul r one) ⨾ times_one r) (moved r)

-- ![r] 0 and ![r] 1
abbrev bangs : (r : Distance) → IsBang r → Two (BangT r NumT)
bangs r b = record {
  left = BangV zero_;
  right = BangV one_;
  apart = r;
  is_type = record { well_formed = refl; limits = (b, tt) };
  left_typed = typed_bang zero_typed;
  right_typed = typed_bang one_typed;
  near = near_bang one one_apart (times_one r);
}

reorder : (m q p k : ℕ) → m * q * p * k ≤ m * (k * p * q)
reorder m q p k = omega arith

-- what is over p/q, times p/q
undivided : (a : Distance) (p q : ℕ) → 0 < p → mul (quotient a (Fin p q)) (Fin p q) ⊑ a
undivided Inf p q h = ⊑-inf _
undivided (Fin m k) p q h =
    let e : den (den k * p) ≡ den k * p = den_of (den k * p) (pos_mul (den k) p (den_pos k) h) in
    let f : den (den k * p * den q) ≡ den k * p * den q = den_of (den k * p * den q) (pos_mul (den k * p) (den q) (pos_mul (den k) p (den_pos k) h) (den_pos q)) in
    record { le = rw (e, f) (reorder m (den q) p (den k)) }

pub let_bang_reached : (p q : ℕ) (r : Distance) → IsBang (Fin p q) → IsBang r → Reached (n_of (BangT (Fin p q) NumT)) (let_bang_of r) (Fin p q ∷ [])
let_bang_reached p q r b c =
    reaches (bangs (Fin p q) b) (let_bang_of r) (BangT r NumT) _ r (BangV zero_) (BangV one_) (is_let_bang (is_var (here refl)) (is_bang (is_var (here refl)) c))
    (3, (zero_, refl, (zero_, refl, refl))) (3, (one_, refl, (one_, refl, refl))) (at_one (quotient (mul r one) (Fin p q)) (Fin p q) ⨾ undivided (mul r one) p q (omega (arith, b.0)) ⨾ times_one r) (moved r)

-- pairs

pair_type : IsType (TensorT NumT NumT)
pair_type = record { well_formed = refl; limits = (tt, tt) }

no_more : Near NumT zero_ zero_ none
no_more = near_num (record { le = omega arith })

-- (0, 0) and (1, 0)
abbrev first_moves : Two (TensorT NumT NumT)
first_moves = record {
  left = PairV zero_ zero_;
  right = PairV one_ zero_;
  apart = one;
  is_type = pair_type;
  left_typed = typed_pair zero_typed zero_typed;
  right_typed = typed_pair one_typed zero_typed;
  near = near_pair one none one_apart no_more (add-none_r one);
}

-- (0, 0) and (0, 1)
abbrev second_moves : Two (TensorT NumT NumT)
second_moves = record {
  left = PairV zero_ zero_;
  right = PairV zero_ one_;
  apart = one;
  is_type = pair_type;
  left_typed = typed_pair zero_typed zero_typed;
  right_typed = typed_pair zero_typed one_typed;
  near = near_pair none one no_more one_apart (add-none one);
}

pub first_name_reached : (r : Distance) → IsBang r → Reached (n_of (TensorT NumT NumT)) (first_name_of r) (one ∷ [])
first_name_reached r b =
    reaches first_moves (first_name_of r) (BangT r NumT) _ r (BangV zero_) (BangV one_) (is_let_pair (is_var (here refl)) (is_bang (is_var (there refl (here refl))) b))
    (3, (zero_, zero_, refl, (zero_, refl, refl))) (3, (one_, zero_, refl, (one_, refl, refl))) (at_one_one _ ⨾ greater-least _ _ r (times_one r) (mul-none r ⨾ none-least r)) (moved r)

pub second_name_reached : (r : Distance) → IsBang r → Reached (n_of (TensorT NumT NumT)) (second_name_of r) (one ∷ [])
second_name_reached r b =
    reaches second_moves (second_name_of r) (BangT r NumT) _ r (BangV zero_) (BangV one_) (is_let_pair (is_var (here refl)) (is_bang (is_var (here refl)) b))
    (3, (zero_, zero_, refl, (zero_, refl, refl))) (3, (zero_, one_, refl, (one_, refl, refl))) (at_one_one _ ⨾ greater-least _ _ r (none-least r) (times_one r)) (moved r)

-- sums

sum_type : IsType (SumT NumT NumT)
sum_type = record { well_formed = refl; limits = (tt, tt) }

-- inl 0 and inl 1
abbrev left_moves : Two (SumT NumT NumT)
left_moves = record { left = InlV zero_; right = InlV one_; apart = one; is_type = sum_type; left_typed = typed_inl zero_typed; right_typed = typed_inl one_typed; near = near_inl one_apart }

-- inr 0 and inr 1
abbrev right_moves : Two (SumT NumT NumT)
right_moves = record { left = InrV zero_; right = InrV one_; apart = one; is_type = sum_type; left_typed = typed_inr zero_typed; right_typed = typed_inr one_typed; near = near_inr one_apart }

bang_above_zero : (r : Distance) → IsBang r → r ⊑ none → ⊥
bang_above_zero (Fin p q) b h = let k : p * 1 ≤ 0 * den q = h.le in omega (arith, b.0, k)
bang_above_zero Inf b h = h.le

-- 1 doesn't stand in the place of what is above 0
stays : (d r : Distance) → (d ⊑ none → ⊥) → d ⊑ r → above_zero d ⊑ r
stays d r h l = go (is_le d none) refl
  where
    go : (b : Bool) → is_le d none ≡ b → cond b one d ⊑ r
    go true e = absurd (h (is_le-yes d none e))
    go false e = l

pub left_case_reached : (r : Distance) → IsBang r → Reached (n_of (SumT NumT NumT)) (left_case_of r) (one ∷ [])
left_case_reached r b =
    reaches left_moves (left_case_of r) (BangT r NumT) _ r (BangV zero_) (BangV one_) (is_case (is_var (here refl)) (is_bang (is_var (here refl)) b) (is_bang (is_num (small 0 (omega arith))) b) refl)
    (3, inl (zero_, refl, (zero_, refl, refl))) (3, inl (one_, refl, (one_, refl, refl)))
    (at_one_one _ ⨾ stays (greater (mul r one) none) r (λ h. bang_above_zero r b (one_times r ⨾ greater-left (mul r one) none ⨾ h)) (greater-least _ _ r (times_one r) (none-least r))) (moved r)

pub right_case_reached : (r : Distance) → IsBang r → Reached (n_of (SumT NumT NumT)) (right_case_of r) (one ∷ [])
right_case_reached r b =
    reaches right_moves (right_case_of r) (BangT r NumT) _ r (BangV zero_) (BangV one_) (is_case (is_var (here refl)) (is_bang (is_num (small 0 (omega arith))) b) (is_bang (is_var (here refl)) b) refl)
    (3, inr (zero_, refl, (zero_, refl, refl))) (3, inr (one_, refl, (one_, refl, refl)))
    (at_one_one _ ⨾ stays (greater none (mul r one)) r (λ h. bang_above_zero r b (one_times r ⨾ greater-right none (mul r one) ⨾ h)) (greater-least _ _ r (none-least r) (times_one r))) (moved r)

-- k * n

times_nothing : (z : ℤ) → z *ℤ pos 0 ≡ pos 0
times_nothing z = omega (arith, ints)

times_itself : (z : ℤ) → z *ℤ pos 1 ≡ z
times_itself z = omega (arith, ints)

clamped_gap : (z : ℤ) → IsNumber z → unsigned_abs z ≤ gap (clamp (pos 0)) (clamp z)
clamped_gap z l = omega (arith, ints, clamps, l.0, l.1)

at_least : (m k : ℕ) (d : Distance) → m ≤ k → Fin k 1 ⊑ d → Fin m 1 ⊑ d
at_least m k d h l = record { le = omega (arith, h) } ⨾ l

pub times_reached : (k : ℤ) → IsNumber k → Reached (n_of NumT) (times_of k) (one ∷ [])
times_reached k l =
    reaches numbers (times_of k) NumT _ (size_of k) (NumV (clamp (pos 0))) (NumV (clamp k)) (is_times is_n)
    (2, (pos 0, refl, ap (λ y. NumV (clamp y)) (sym (times_nothing k)))) (2, (pos 1, refl, ap (λ y. NumV (clamp y)) (sym (times_itself k)))) (at_one_one (size_of k)) move
  where
    move : (d : Distance) → NearNum (NumV (clamp (pos 0))) (NumV (clamp k)) d → size_of k ⊑ d
    move d (near_num m) = at_least _ _ _ (clamped_gap k l) m

-- sum[lo,hi] n, where n is empty or has one number c

bag_type : IsType (BagT NumT)
bag_type = record { well_formed = refl; limits = tt }

abbrev IsRow : Flat → Type 0
IsRow a = Typed NumT (value_of a)

abbrev one_more : (c : ℤ) → IsNumber c → Two (BagT NumT)
one_more c l = record {
  left = BagV [];
  right = BagV (NumF c ∷ []);
  apart = one;
  is_type = bag_type;
  left_typed = typed_bag (All-nil IsRow);
  right_typed = typed_bag (All-cons IsRow (NumF c) [] (typed_num l) (All-nil IsRow));
  near = near_bag 1 (on_right none_left at_front) (⊑-refl one);
}

sum_moves : (lo hi c : ℤ) → IsNumber c → max (unsigned_abs lo) (unsigned_abs hi) ≤ gap (clamp (pos 0)) (clamp (clip lo hi c +ℤ pos 0)) → Reached (n_of (BagT NumT)) (sum_between lo hi) (one ∷ [])
sum_moves lo hi c l g =
    reaches (one_more c l) (sum_between lo hi) NumT _ (widest_of lo hi) (NumV (clamp (pos 0))) (NumV (clamp (clip lo hi c +ℤ pos 0))) (is_sum (is_var (here refl))) (2, ([], refl, refl)) (2, (c ∷ [], refl, refl))
    (at_one_one (widest_of lo hi)) move
  where
    move : (d : Distance) → NearNum (NumV (clamp (pos 0))) (NumV (clamp (clip lo hi c +ℤ pos 0))) d → widest_of lo hi ⊑ d
    move d (near_num q) = at_least _ _ _ g q

low_gap : (lo hi : ℤ) → lo ≤ℤ hi → IsNumber lo → unsigned_abs hi ≤ unsigned_abs lo → max (unsigned_abs lo) (unsigned_abs hi) ≤ gap (clamp (pos 0)) (clamp (clip lo hi lo +ℤ pos 0))
low_gap lo hi h l g = omega (arith, ints, clamps, h, l.0, l.1, g)

high_gap : (lo hi : ℤ) → lo ≤ℤ hi → IsNumber hi → unsigned_abs lo < unsigned_abs hi → max (unsigned_abs lo) (unsigned_abs hi) ≤ gap (clamp (pos 0)) (clamp (clip lo hi hi +ℤ pos 0))
high_gap lo hi h l g = omega (arith, ints, clamps, h, l.0, l.1, g)

pub sum_reached : (lo hi : ℤ) → lo ≤ℤ hi → IsNumber lo → IsNumber hi → Reached (n_of (BagT NumT)) (sum_between lo hi) (one ∷ [])
sum_reached lo hi o l m = go (cases_lt (unsigned_abs lo) (unsigned_abs hi))
  where
    go : (unsigned_abs lo < unsigned_abs hi) ⊎ (unsigned_abs hi ≤ unsigned_abs lo) → Reached (n_of (BagT NumT)) (sum_between lo hi) (one ∷ [])
    go (inl g) = sum_moves lo hi hi m (high_gap lo hi o m g)
    go (inr g) = sum_moves lo hi lo l (low_gap lo hi o l g)

-- comparisons

to_false : (d : Distance) → Near BoolT (truth true) (truth false) d → Inf ⊑ d
to_false d (near_lr h) = h

to_true : (d : Distance) → Near BoolT (truth false) (truth true) d → Inf ⊑ d
to_true d (near_rl h) = h

pub at_most_zero_reached : Reached (n_of NumT) at_most_zero (one ∷ [])
at_most_zero_reached =
    reaches numbers at_most_zero BoolT _ Inf (truth true) (truth false) (is_at_most is_n (is_num (small 0 (omega arith)))) (2, (pos 0, pos 0, refl, refl, refl)) (2, (pos 1, pos 0, refl, refl, refl)) (⊑-inf _) to_false

pub at_least_one_reached : Reached (n_of NumT) at_least_one (one ∷ [])
at_least_one_reached =
    reaches numbers at_least_one BoolT _ Inf (truth false) (truth true) (is_at_most (is_num (small 1 (omega arith))) is_n) (2, (pos 1, pos 0, refl, refl, refl)) (2, (pos 1, pos 1, refl, refl, refl)) (⊑-inf _) to_true

pub equal_to_zero_reached : Reached (n_of NumT) equal_to_zero (one ∷ [])
equal_to_zero_reached =
    reaches numbers equal_to_zero BoolT _ Inf (truth true) (truth false) (is_eq_num is_n (is_num (small 0 (omega arith)))) (2, inl (pos 0, pos 0, refl, refl, refl)) (2, inl (pos 1, pos 0, refl, refl, refl)) (⊑-inf _) to_false

pub zero_is_equal_reached : Reached (n_of NumT) zero_is_equal (one ∷ [])
zero_is_equal_reached =
    reaches numbers zero_is_equal BoolT _ Inf (truth true) (truth false) (is_eq_num (is_num (small 0 (omega arith))) is_n) (2, inl (pos 0, pos 0, refl, refl, refl)) (2, inl (pos 0, pos 1, refl, refl, refl)) (⊑-inf _) to_false

-- map, where b has more elements than any finite bound

-- m elements, each z
abbrev alike : ℕ → ℤ → List Flat
alike m z = map NumF (replicate m z)

abbrev with_both : Value → List Flat → Env
with_both v xs = Bind (codes "n") v (Bind (codes "b") (BagV xs) Empty)

alike_typed : (m : ℕ) → All IsRow (alike m (pos 5))
alike_typed zero = All-nil IsRow
alike_typed (suc m) = All-cons IsRow (NumF (pos 5)) (alike m (pos 5)) (typed_num (small 5 (omega arith))) (alike_typed m)

same_bag : (xs : List Flat) → Differ xs xs 0
same_bag [] = none_left
same_bag (a ∷ xs) = in_both (same_bag xs) at_front at_front

maps_alike : (m : ℕ) (z : ℤ) (ws : List Flat) → Maps (MeansIn 1) (FnV (codes "x") n (with_both (NumV z) ws)) (alike m (pos 5)) (alike m z)
maps_alike zero z ws = refl
maps_alike (suc m) z ws = (NumF z, alike m z, apply_fn refl, maps_alike m z ws, refl)

zeros : (m : ℕ) → clipped_sum (pos 0) (pos 1) (replicate m (pos 0)) ≡ pos 0
zeros zero = refl
zeros (suc m) = let e = zeros m in omega (arith, ints, clamps, e)

ones : (m : ℕ) → clipped_sum (pos 0) (pos 1) (replicate m (pos 1)) ≡ pos m
ones zero = refl
ones (suc m) = let e = ones m in omega (arith, ints, clamps, e)

all_differ_by : (m c : ℕ) → Differ (alike m (pos 0)) (alike m (pos 1)) c → m ≤ c
all_differ_by m c d = let h = sums (pos 0) (pos 1) (replicate m (pos 0)) (replicate m (pos 1)) d in let e = zeros m in let f = ones m in omega (arith, ints, h, e, f)

not_below : (p q c : ℕ) → suc p ≤ c → Fin c 1 ⊑ Fin p q → ⊥
not_below p q c h l = let e : 1 * c ≤ den q * c = mul-le-mul_right c (den_pos q) in let k : c * den q ≤ p * 1 = l.le in omega (arith, h, e, k)

map_moves : (d : Distance) → (Inf ⊑ d → ⊥) → Moves n_and_a_bag map_to_n (BagT NumT) (one ∷ none ∷ []) d
map_moves Inf h = absurd (h (⊑-refl Inf))
map_moves (Fin p q) h =
    let xs = alike (suc p) (pos 5) in
    record {
      left = with_both zero_ xs;
      right = with_both one_ xs;
      left_typed = typed_bind zero_typed (typed_bind (typed_bag (alike_typed (suc p))) typed_empty);
      right_typed = typed_bind one_typed (typed_bind (typed_bag (alike_typed (suc p))) typed_empty);
      near = near_bind one_apart (near_bind (near_bag 0 (same_bag xs) (⊑-refl none)) near_empty);
      left_value = BagV (alike (suc p) (pos 0));
      right_value = BagV (alike (suc p) (pos 1));
      left_means = (2, (FnV (codes "x") n (with_both zero_ xs), xs, alike (suc p) (pos 0), refl, refl, maps_alike (suc p) (pos 0) xs, refl));
      right_means = (2, (FnV (codes "x") n (with_both one_ xs), xs, alike (suc p) (pos 1), refl, refl, maps_alike (suc p) (pos 1) xs, refl));
      too_far = far;
    }
  where
    far : NearBag (BagV (alike (suc p) (pos 0))) (BagV (alike (suc p) (pos 1))) (Fin p q) → ⊥
    far (near_bag c d l) = not_below p q c (all_differ_by (suc p) c d) l

pub map_reached : Reached n_and_a_bag map_to_n (one ∷ none ∷ [])
map_reached = (BagT NumT, _, (num_type, (bag_type, tt)), is_map (is_fn (is_var (there refl (here refl))) num_type) refl (is_var (there refl (here refl))), map_moves)
