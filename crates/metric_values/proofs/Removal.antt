-- Removing equal elements one for one leaves the fewest that any pairing leaves.
use Rattle.std.proofs.Common.{arith, refl}
use Rattle.std.proofs.lemmas.List.Sorted.{IsPermutation-cons, IsPermutation-middle, IsPermutation-refl, IsPermutation-sym, IsPermutation-trans, sum_by-IsPermutation}
use Rattle.std.proofs.lemmas.List.Sums.{sum_by-cons}
use Rattle.std.specs.List.Sorted.{IsPermutation}
use Rattle.std.specs.Prelude.{Bool, List, None, Option, Some, [], cond, false, length, suc, sum_by, true, ℕ, ◌+◌, ◌∷◌, ◌≡◌, ◌≤◌}
use Rattle.metric_values.proofs.Elements.{same_element_is, same_element_refl}
use Rattle.metric_values.specs.Distances.{bag_distance, same_element, without}
use Rattle.metric_values.specs.Pairing.{Differ, Insert, at_front, behind, in_both, none_left, on_left, on_right}
use Rattle.metric_values.specs.Values.{Flat}

without_is : (x : Flat) (ys zs : List Flat) → without x ys ≡ Some zs → Insert x zs ys
without_is x [] zs h = cc
without_is x (y ∷ ys) zs h = go (same_element x y) refl (without x ys) (without_is x ys) h
  where
    go : (t : Bool) → same_element x y ≡ t → (o : Option (List Flat)) → ((zs : List Flat) → o ≡ Some zs → Insert x zs ys) → cond t (Some ys) (elim o [ None ↦ None | Some us ↦ Some (y ∷ us) ]) ≡ Some zs → Insert x zs (y ∷ ys)
    go true e o rec k = let a : ys ≡ zs = cc in rw (← a, ← same_element_is x y e) at_front
    go false e (Some us) rec k = let a : y ∷ us ≡ zs = cc in rw (← a) (behind (rec us refl))
    go false e None rec k = cc

-- a pairing that leaves as many
pub differ_by : (xs ys : List Flat) → Differ xs ys (bag_distance xs ys)
differ_by [] [] = none_left
differ_by [] (y ∷ ys) = on_right (differ_by [] ys) at_front
differ_by (x ∷ xs) ys = go (without x ys) refl (differ_by xs ys) (differ_by xs)
  where
    go : (o : Option (List Flat)) → without x ys ≡ o → Differ xs ys (bag_distance xs ys) → ((zs : List Flat) → Differ xs zs (bag_distance xs zs)) → Differ (x ∷ xs) ys (elim o [ None ↦ suc (bag_distance xs ys) | Some zs ↦ bag_distance xs zs ])
    go None e d f = on_left d at_front
    go (Some zs) e d f = in_both (f zs) at_front (without_is x ys zs e)

-- no pairing leaves fewer

abbrev mem : Flat → List Flat → Bool
mem z [] = false
mem z (y ∷ ys) = cond (same_element z y) true (mem z ys)

abbrev bit : Bool → ℕ
bit true = 1
bit false = 0

abbrev count : (Flat → Bool) → List Flat → ℕ
count p [] = 0
count p (x ∷ xs) = bit (p x) + count p xs

bit_le : (b : Bool) → bit b ≤ 1
bit_le true = omega arith
bit_le false = omega arith

count_insert : (p : Flat → Bool) {x : Flat} {xs ys : List Flat} → Insert x xs ys → count p ys ≡ bit (p x) + count p xs
count_insert p at_front = refl
count_insert p {x} (behind {y = y} {xs = xs} {ys = ys} i) = let e = count_insert p i in omega arith

-- counts by one test rise, and by another fall, by at most what is left
counts : (p q : Flat → Bool) {xs ys : List Flat} {n : ℕ} → Differ xs ys n → count p xs + count q ys ≤ count p ys + count q xs + n
counts p q none_left = omega arith
counts p q (in_both d i j) = let r = counts p q d in let a = count_insert p i in let b = count_insert q i in let c = count_insert p j in let e = count_insert q j in omega arith
counts p q (on_left {x = x} d i) = let r = counts p q d in let a = count_insert p i in let b = count_insert q i in let c = bit_le (p x) in omega arith
counts p q (on_right {x = x} d j) = let r = counts p q d in let a = count_insert p j in let b = count_insert q j in let c = bit_le (q x) in omega arith

-- what is left on each side
abbrev left_over : List Flat → List Flat → List Flat
left_over [] ys = []
left_over (x ∷ xs) ys = elim (without x ys) [ None ↦ x ∷ left_over xs ys | Some zs ↦ left_over xs zs ]

abbrev right_over : List Flat → List Flat → List Flat
right_over [] ys = ys
right_over (x ∷ xs) ys = elim (without x ys) [ None ↦ right_over xs ys | Some zs ↦ right_over xs zs ]

left_count : (xs ys : List Flat) → bag_distance xs ys ≡ length (left_over xs ys) + length (right_over xs ys)
left_count [] ys = omega arith
left_count (x ∷ xs) ys = go (without x ys) (left_count xs ys) (left_count xs)
  where
    go : (o : Option (List Flat)) → bag_distance xs ys ≡ length (left_over xs ys) + length (right_over xs ys) → ((zs : List Flat) → bag_distance xs zs ≡ length (left_over xs zs) + length (right_over xs zs))
        → elim o as (λ _. ℕ) [ None ↦ suc (bag_distance xs ys) | Some zs ↦ bag_distance xs zs ]
        ≡ length (elim o as (λ _. List Flat) [ None ↦ x ∷ left_over xs ys | Some zs ↦ left_over xs zs ]) + length (elim o as (λ _. List Flat) [ None ↦ right_over xs ys | Some zs ↦ right_over xs zs ])
    go None e f = omega (arith, e)
    go (Some zs) e f = f zs

kept_count : (p : Flat → Bool) (xs ys : List Flat) → count p xs + count p (right_over xs ys) ≡ count p ys + count p (left_over xs ys)
kept_count p [] ys = omega arith
kept_count p (x ∷ xs) ys = go (without x ys) refl (kept_count p xs ys) (kept_count p xs)
  where
    go : (o : Option (List Flat)) → without x ys ≡ o → count p xs + count p (right_over xs ys) ≡ count p ys + count p (left_over xs ys) → ((zs : List Flat) → count p xs + count p (right_over xs zs) ≡ count p zs + count p (left_over xs zs))
        → bit (p x) + count p xs + count p (elim o as (λ _. List Flat) [ None ↦ right_over xs ys | Some zs ↦ right_over xs zs ]) ≡ count p ys + count p (elim o as (λ _. List Flat) [ None ↦ x ∷ left_over xs ys | Some zs ↦ left_over xs zs ])
    go None e f g = omega (arith, f)
    go (Some zs) e f g = let a = g zs in let b = count_insert p (without_is x ys zs e) in omega (arith, a, b)

without_none : (x : Flat) (ys : List Flat) → without x ys ≡ None → mem x ys ≡ false
without_none x [] h = refl
without_none x (y ∷ ys) h = go (same_element x y) (without x ys) (without_none x ys) h
  where
    go : (t : Bool) (o : Option (List Flat)) → (o ≡ None → mem x ys ≡ false) → cond t (Some ys) (elim o as (λ _. Option (List Flat)) [ None ↦ None | Some us ↦ Some (y ∷ us) ]) ≡ None → cond t true (mem x ys) ≡ false
    go true o rec k = cc
    go false (Some us) rec k = cc
    go false None rec k = rec refl

insert_mem : (z : Flat) {x : Flat} {xs ys : List Flat} → Insert x xs ys → mem z xs ≡ true → mem z ys ≡ true
insert_mem z {x} {xs} at_front h = go (same_element z x)
  where
    go : (t : Bool) → cond t true (mem z xs) ≡ true
    go true = refl
    go false = h
insert_mem z (behind {y = y} {xs = xs} {ys = ys} i) h = go (same_element z y) (insert_mem z i) h
  where
    go : (t : Bool) → (mem z xs ≡ true → mem z ys ≡ true) → cond t true (mem z xs) ≡ true → cond t true (mem z ys) ≡ true
    go true f k = refl
    go false f k = f k

-- what is left on the right was there
rights_in : (z : Flat) (xs ys : List Flat) → mem z (right_over xs ys) ≡ true → mem z ys ≡ true
rights_in z [] ys h = h
rights_in z (x ∷ xs) ys h = go (without x ys) refl (rights_in z xs ys) (rights_in z xs) h
  where
    go : (o : Option (List Flat)) → without x ys ≡ o → (mem z (right_over xs ys) ≡ true → mem z ys ≡ true) → ((zs : List Flat) → mem z (right_over xs zs) ≡ true → mem z zs ≡ true)
        → mem z (elim o as (λ _. List Flat) [ None ↦ right_over xs ys | Some zs ↦ right_over xs zs ]) ≡ true → mem z ys ≡ true
    go None e f g k = f k
    go (Some zs) e f g k = insert_mem z (without_is x ys zs e) (g zs k)

-- nothing is left on both sides
not_on_both : (z : Flat) (xs ys : List Flat) → mem z (left_over xs ys) ≡ true → mem z (right_over xs ys) ≡ true → ⊥
not_on_both z [] ys h k = cc
not_on_both z (x ∷ xs) ys h k = go (without x ys) refl (not_on_both z xs ys) (not_on_both z xs) h k
  where
    first' : (t : Bool) → same_element z x ≡ t → without x ys ≡ None → (mem z (left_over xs ys) ≡ true → mem z (right_over xs ys) ≡ true → ⊥) → cond t true (mem z (left_over xs ys)) ≡ true → mem z (right_over xs ys) ≡ true → ⊥
    first' true e n f h k = let a : z ≡ x = same_element_is z x e in let b : mem z ys ≡ true = rights_in z xs ys k in let c : mem z ys ≡ false = rw a (without_none x ys n) in cc
    first' false e n f h k = f h k

    go : (o : Option (List Flat)) → without x ys ≡ o → (mem z (left_over xs ys) ≡ true → mem z (right_over xs ys) ≡ true → ⊥) → ((zs : List Flat) → mem z (left_over xs zs) ≡ true → mem z (right_over xs zs) ≡ true → ⊥)
        → mem z (elim o as (λ _. List Flat) [ None ↦ x ∷ left_over xs ys | Some zs ↦ left_over xs zs ]) ≡ true → mem z (elim o as (λ _. List Flat) [ None ↦ right_over xs ys | Some zs ↦ right_over xs zs ]) ≡ true → ⊥
    go None e f g h k = first' (same_element z x) refl e f h k
    go (Some zs) e f g h k = g zs h k

mem_head : (x : Flat) (xs : List Flat) → mem x (x ∷ xs) ≡ true
mem_head x xs = rw (same_element_refl x)

mem_tail : (z x : Flat) (xs : List Flat) → mem z xs ≡ true → mem z (x ∷ xs) ≡ true
mem_tail z x xs h = let i : Insert x xs (x ∷ xs) = at_front in insert_mem z i h

count_all : (p : Flat → Bool) (xs : List Flat) → ((z : Flat) → mem z xs ≡ true → p z ≡ true) → count p xs ≡ length xs
count_all p [] h = refl
count_all p (x ∷ xs) h = let a = h x (mem_head x xs) in let b = count_all p xs (λ z k. h z (mem_tail z x xs k)) in rw a (omega (arith, b))

count_no : (p : Flat → Bool) (xs : List Flat) → ((z : Flat) → mem z xs ≡ true → p z ≡ false) → count p xs ≡ 0
count_no p [] h = refl
count_no p (x ∷ xs) h = let a = h x (mem_head x xs) in let b = count_no p xs (λ z k. h z (mem_tail z x xs k)) in rw a (omega (arith, b))

not_true : (b : Bool) → (b ≡ true → ⊥) → b ≡ false
not_true true h = absurd (h refl)
not_true false h = refl

-- where counts by one test rise, and by another fall, by at most n, removal leaves at most n
pub removal_at_most : (xs ys : List Flat) (n : ℕ) → ((p q : Flat → Bool) → count p xs + count q ys ≤ count p ys + count q xs + n) → bag_distance xs ys ≤ n
removal_at_most xs ys n w =
    let L = left_over xs ys in
    let R = right_over xs ys in
    let u = w (λ z. mem z L) (λ z. mem z R) in
    let a = kept_count (λ z. mem z L) xs ys in
    let b = kept_count (λ z. mem z R) xs ys in
    let c = count_all (λ z. mem z L) L (λ z k. k) in
    let e = count_all (λ z. mem z R) R (λ z k. k) in
    let f = count_no (λ z. mem z L) R (λ z k. not_true (mem z L) (λ l. not_on_both z xs ys l k)) in
    let g = count_no (λ z. mem z R) L (λ z k. not_true (mem z R) (λ r. not_on_both z xs ys k r)) in
    let h = left_count xs ys in omega (arith, u, a, b, c, e, f, g, h)

pub removal_least : (xs ys : List Flat) (n : ℕ) → Differ xs ys n → bag_distance xs ys ≤ n
removal_least xs ys n d = removal_at_most xs ys n (λ p q. counts p q d)

pub removal_flips : (xs ys : List Flat) → bag_distance ys xs ≤ bag_distance xs ys
removal_flips xs ys = removal_at_most ys xs (bag_distance xs ys) (λ p q. let r = counts q p (differ_by xs ys) in omega (arith, r))

pub removal_symmetric : (xs ys : List Flat) → bag_distance xs ys ≡ bag_distance ys xs
removal_symmetric xs ys = let a = removal_flips xs ys in let b = removal_flips ys xs in omega (arith, a, b)

pub removal_triangle : (xs ys zs : List Flat) → bag_distance xs zs ≤ bag_distance xs ys + bag_distance ys zs
removal_triangle xs ys zs = removal_at_most xs zs (bag_distance xs ys + bag_distance ys zs) (λ p q. let a = counts p q (differ_by xs ys) in let b = counts p q (differ_by ys zs) in omega (arith, a, b))

-- a distance of 0 is another order

inserted : {x : Flat} {xs ys : List Flat} → Insert x xs ys → IsPermutation (x ∷ xs) ys
inserted {x} {xs} at_front = IsPermutation-refl (x ∷ xs)
inserted {x} (behind {y = y} {xs = xs} {ys = ys} i) =
    IsPermutation-trans (x ∷ y ∷ xs) (y ∷ x ∷ xs) (y ∷ ys) (IsPermutation-middle (x ∷ []) y xs) (IsPermutation-cons y (x ∷ xs) ys (inserted i))

permuted : {xs ys : List Flat} {n : ℕ} → Differ xs ys n → n ≡ 0 → IsPermutation xs ys
permuted none_left e = IsPermutation-refl []
permuted (in_both {x = x} {xs = xs} {ys = ys} {xs' = xs'} {ys' = ys'} d i j) e =
    IsPermutation-trans xs' (x ∷ xs) ys' (IsPermutation-sym (x ∷ xs) xs' (inserted i)) (IsPermutation-trans (x ∷ xs) (x ∷ ys) ys' (IsPermutation-cons x xs ys (permuted d e)) (inserted j))
permuted (on_left d i) e = absurd (omega (arith, e))
permuted (on_right d j) e = absurd (omega (arith, e))

pub zero_permuted : (xs ys : List Flat) → bag_distance xs ys ≡ 0 → IsPermutation xs ys
zero_permuted xs ys e = permuted (differ_by xs ys) e

count_sum : (p : Flat → Bool) (xs : List Flat) → count p xs ≡ sum_by (λ x. bit (p x)) xs
count_sum p [] = refl
count_sum p (x ∷ xs) = let a = count_sum p xs in let b = sum_by-cons (λ x. bit (p x)) x xs in omega (arith, a, b)

permuted_count : (p : Flat → Bool) (xs ys : List Flat) → IsPermutation xs ys → count p ys ≡ count p xs
permuted_count p xs ys h = let a = count_sum p xs in let b = count_sum p ys in let c = sum_by-IsPermutation (λ x. bit (p x)) xs ys h in omega (arith, a, b, c)

pub permuted_zero : (xs ys : List Flat) → IsPermutation xs ys → bag_distance xs ys ≡ 0
permuted_zero xs ys h = let a = removal_at_most xs ys 0 (λ p q. let b = permuted_count p xs ys h in let c = permuted_count q xs ys h in omega (arith, b, c)) in omega (arith, a)
