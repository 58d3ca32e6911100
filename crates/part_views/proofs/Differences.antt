-- Rows that pass tests, of which each row passes one at most, are together no further apart than all rows.
use Rattle.std.proofs.Common.{◌≡◌, ◌≤◌, ◌<◌, ◌+◌, ℕ, zero, suc, Bool, true, false, cond, List, ◌∷◌, refl, ap, arith}
use Rattle.std.specs.Prelude.{filter}
use Rattle.metric_values.proofs.Removal.{differ_by, removal_least}
use Rattle.metric_values.specs.Distances.{bag_distance}
use Rattle.metric_values.specs.Pairing.{Differ, Insert, at_front, behind, in_both, none_left, on_left, on_right}
use Rattle.metric_values.specs.Values.{Flat}
use Rattle.partition_charge.specs.Cost.{total_below}

-- ---- sums

abbrev bit : Bool → ℕ
bit true = 1
bit false = 0

pub total-zero : (n : ℕ) → total_below n (λ j. 0) ≡ 0
total-zero zero = refl
total-zero (suc n) = omega (arith, total-zero n)

pub total-le : (n : ℕ) (f g : ℕ → ℕ) → ((j : ℕ) → f j ≤ g j) → total_below n f ≤ total_below n g
total-le zero f g below = omega arith
total-le (suc n) f g below = omega (arith, total-le n f g below, below n)

none_pass : (n : ℕ) (t : ℕ → Bool) → ((j : ℕ) → j < n → t j ≡ false) → total_below n (λ j. bit (t j)) ≡ 0
none_pass zero t none = refl
none_pass (suc n) t none =
    let here : bit (t n) ≡ 0 = rw (none n (omega arith)) refl in
    omega (arith, here, none_pass n t (λ j low. none j (omega arith)))

-- where one passes at most, one passes at most
one_passes : (n : ℕ) (t : ℕ → Bool) → ((i j : ℕ) → t i ≡ true → t j ≡ true → i ≡ j) → total_below n (λ j. bit (t j)) ≤ 1
one_passes zero t one = omega arith
one_passes (suc n) t one = by (t n) refl (one_passes n t one)
  where
    fails : (j : ℕ) (b : Bool) → t j ≡ b → (t j ≡ true → ⊥) → t j ≡ false
    fails j true e isnt = absurd (isnt e)
    fails j false e isnt = e

    by : (b : Bool) → t n ≡ b → total_below n (λ j. bit (t j)) ≤ 1 → total_below n (λ j. bit (t j)) + bit b ≤ 1
    by true e rest =
        omega (arith, none_pass n t (λ j low. fails j (t j) refl (λ passes. let same : j ≡ n = one j n passes e in omega arith)))
    by false e rest = omega (arith, rest)

one_more : (n : ℕ) (t : ℕ → Bool) (f : ℕ → ℕ)
    → total_below n (λ j. cond (t j) (suc (f j)) (f j)) ≡ total_below n (λ j. bit (t j)) + total_below n f
one_more zero t f = refl
one_more (suc n) t f = omega (arith, one_more n t f, by (t n) (f n))
  where
    by : (b : Bool) (m : ℕ) → cond b (suc m) m ≡ bit b + m
    by true m = omega arith
    by false m = omega arith

-- ---- what passes a test

insert_kept : (p : Flat → Bool) (x : Flat) {xs ys : List Flat} → Insert x xs ys → p x ≡ true → Insert x (filter p xs) (filter p ys)
insert_kept p x at_front e = rw e at_front
insert_kept p x (behind {y = y} {xs = xs} {ys = ys} i) e = by (p y) (insert_kept p x i e)
  where
    by : (b : Bool) → Insert x (filter p xs) (filter p ys) → Insert x (cond b (y ∷ filter p xs) (filter p xs)) (cond b (y ∷ filter p ys) (filter p ys))
    by true k = behind k
    by false k = k

insert_left_out : (p : Flat → Bool) (x : Flat) {xs ys : List Flat} → Insert x xs ys → p x ≡ false → filter p ys ≡ filter p xs
insert_left_out p x at_front e = rw e refl
insert_left_out p x (behind {y = y} {xs = xs} {ys = ys} i) e = by (p y) (insert_left_out p x i e)
  where
    by : (b : Bool) → filter p ys ≡ filter p xs → cond b (y ∷ filter p ys) (filter p ys) ≡ cond b (y ∷ filter p xs) (filter p xs)
    by true k = ap (λ (zs : List Flat). y ∷ zs) k
    by false k = k

-- how many of those that are left pass a test
abbrev left_passing : (p : Flat → Bool) {xs ys : List Flat} {n : ℕ} → Differ xs ys n → ℕ
left_passing p none_left = 0
left_passing p (in_both d i j) = left_passing p d
left_passing p (on_left {x = x} d i) = cond (p x) (suc (left_passing p d)) (left_passing p d)
left_passing p (on_right {x = x} d j) = cond (p x) (suc (left_passing p d)) (left_passing p d)

-- a pairing pairs off what passes
passing : (p : Flat → Bool) {xs ys : List Flat} {n : ℕ} (d : Differ xs ys n) → Differ (filter p xs) (filter p ys) (left_passing p d)
passing p none_left = none_left
passing p (in_both {x = x} {xs = xs} {ys = ys} {xs' = xs'} {ys' = ys'} d i j) = by (p x) refl (passing p d)
  where
    by : (b : Bool) → p x ≡ b → Differ (filter p xs) (filter p ys) (left_passing p d) → Differ (filter p xs') (filter p ys') (left_passing p d)
    by true e k = in_both k (insert_kept p x i e) (insert_kept p x j e)
    by false e k = rw (insert_left_out p x i e, insert_left_out p x j e) k
passing p (on_left {x = x} {xs = xs} {ys = ys} {xs' = xs'} d i) = by (p x) refl (passing p d)
  where
    by : (b : Bool) → p x ≡ b → Differ (filter p xs) (filter p ys) (left_passing p d)
        → Differ (filter p xs') (filter p ys) (cond b (suc (left_passing p d)) (left_passing p d))
    by true e k = on_left k (insert_kept p x i e)
    by false e k = rw (insert_left_out p x i e) k
passing p (on_right {x = x} {xs = xs} {ys = ys} {ys' = ys'} d j) = by (p x) refl (passing p d)
  where
    by : (b : Bool) → p x ≡ b → Differ (filter p xs) (filter p ys) (left_passing p d)
        → Differ (filter p xs) (filter p ys') (cond b (suc (left_passing p d)) (left_passing p d))
    by true e k = on_right k (insert_kept p x j e)
    by false e k = rw (insert_left_out p x j e) k

-- ---- tests of which each row passes one at most

module _ (n : ℕ) (p : ℕ → Flat → Bool) (one : (i j : ℕ) (x : Flat) → p i x ≡ true → p j x ≡ true → i ≡ j) where
  abbrev left_in : {xs ys : List Flat} {k : ℕ} → Differ xs ys k → ℕ
  left_in d = total_below n (λ j. left_passing (p j) d)

  all_left : {xs ys : List Flat} {k : ℕ} (d : Differ xs ys k) → total_below n (λ j. left_passing (p j) d) ≤ k
  all_left none_left = omega (arith, total-zero n)
  all_left (in_both d i j) = all_left d
  all_left (on_left {x = x} d i) =
      omega (arith, all_left d, one_more n (λ j. p j x) (λ j. left_passing (p j) d), one_passes n (λ j. p j x) (λ i j. one i j x))
  all_left (on_right {x = x} d i) =
      omega (arith, all_left d, one_more n (λ j. p j x) (λ j. left_passing (p j) d), one_passes n (λ j. p j x) (λ i j. one i j x))

  pub together : (xs ys : List Flat) → total_below n (λ j. bag_distance (filter (p j) xs) (filter (p j) ys)) ≤ bag_distance xs ys
  together xs ys =
      let d = differ_by xs ys in
      omega (
        arith,
        all_left d,
        total-le n (λ j. bag_distance (filter (p j) xs) (filter (p j) ys)) (λ j. left_passing (p j) d)
            (λ j. removal_least (filter (p j) xs) (filter (p j) ys) (left_passing (p j) d) (passing (p j) d)),
      )
