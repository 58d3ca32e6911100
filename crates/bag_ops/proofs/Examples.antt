-- The definitions at worked lists.
use Rattle.std.proofs.Common.{ap, arith, refl, ◌∙◌}
use Rattle.std.specs.List.{AllZip}
use Rattle.std.specs.Prelude.{Bool, List, [], false, map, nat_le, neg_ℤ, not, pos, true, ℕ, ℤ, ◌+◌, ◌∷◌, ◌≡◌}
use Rattle.metric_values.specs.Numbers.{clamp, clipped_sum}
use Rattle.bag_ops.specs.Bags.{AreElements, IsFilter, IsSplit, picked, others}

some_kept : picked {X = ℕ} (5 ∷ 7 ∷ 0 ∷ 5 ∷ []) (true ∷ false ∷ false ∷ true ∷ []) ≡ 5 ∷ 5 ∷ []
some_kept = refl

the_others : others {X = ℕ} (5 ∷ 7 ∷ 0 ∷ 5 ∷ []) (true ∷ false ∷ false ∷ true ∷ []) ≡ 7 ∷ 0 ∷ []
the_others = refl

none_of_nothing : picked {X = ℕ} [] [] ≡ []
none_of_nothing = refl

others_of_nothing : others {X = ℕ} [] [] ≡ []
others_of_nothing = refl

-- the two are each other's turned round
others_are_kept : {X : Type 0} (xs : List X) (bs : List Bool) → others xs bs ≡ picked xs (map not bs)
others_are_kept [] bs = refl
others_are_kept (x ∷ xs) [] = refl
others_are_kept (x ∷ xs) (true ∷ bs) = others_are_kept xs bs
others_are_kept (x ∷ xs) (false ∷ bs) = λ i. x ∷ others_are_kept xs bs i

-- places count from 0
elements_by_place : AreElements (λ i x. x ≡ i) 3 (0 ∷ 1 ∷ 2 ∷ [])
elements_by_place = (refl, (refl, (refl, tt)))

not_one_more : AreElements (λ i x. x ≡ i) 3 (0 ∷ 1 ∷ 2 ∷ 3 ∷ []) → ⊥
not_one_more h = h.1.1.1

filtered : IsFilter {X = ℕ} (λ x b. b ≡ true) (4 ∷ []) (4 ∷ [])
filtered = (true ∷ [], (refl, tt), refl)

split_in_two : IsSplit {X = ℕ} (λ x b. b ≡ false) (4 ∷ []) [] (4 ∷ [])
split_in_two = (false ∷ [], (refl, tt), refl, refl)

-- of this length, and not shorter
not_one_less : AreElements (λ i x. x ≡ i) 3 (0 ∷ 1 ∷ []) → ⊥
not_one_less h = h.1.1

not_another_order : AreElements (λ i x. x ≡ i) 2 (1 ∷ 0 ∷ []) → ⊥
not_another_order h = let first : 1 ≡ 0 = h.0 in absurd (omega (arith, first))

-- a function that answers true from 5 on, and what a list of its answers is
abbrev IsFromFive : ℕ → Bool → Type 0
IsFromFive x b = b ≡ nat_le 5 x

verdicts_are : (xs : List ℕ) (bs : List Bool) → AllZip IsFromFive xs bs → bs ≡ map (λ x. nat_le 5 x) xs
verdicts_are [] [] h = refl
verdicts_are [] (b ∷ bs) h = absurd h
verdicts_are (x ∷ xs) [] h = absurd h
verdicts_are (x ∷ xs) (b ∷ bs) h = λ i. h.0 i ∷ verdicts_are xs bs h.1 i

filter_is : (xs ys : List ℕ) → IsFilter IsFromFive xs ys → ys ≡ picked xs (map (λ x. nat_le 5 x) xs)
filter_is xs ys (bs, verdicts, is) = is ∙ ap (picked xs) (verdicts_are xs bs verdicts)

split_is : (xs ys zs : List ℕ) → IsSplit IsFromFive xs ys zs → (ys ≡ picked xs (map (λ x. nat_le 5 x) xs)) × (zs ≡ others xs (map (λ x. nat_le 5 x) xs))
split_is xs ys zs (bs, verdicts, is, are) = (is ∙ ap (picked xs) (verdicts_are xs bs verdicts), are ∙ ap (others xs) (verdicts_are xs bs verdicts))

-- the false ones are left out, the others stay in their order, each as often as it is there
some_filtered : IsFilter IsFromFive (4 ∷ 7 ∷ 5 ∷ 0 ∷ 7 ∷ []) (7 ∷ 5 ∷ 7 ∷ [])
some_filtered = (false ∷ true ∷ true ∷ false ∷ true ∷ [], (refl, (refl, (refl, (refl, (refl, tt))))), refl)

none_filtered : IsFilter IsFromFive (4 ∷ 0 ∷ []) []
none_filtered = (false ∷ false ∷ [], (refl, (refl, tt)), refl)

not_the_false_ones : IsFilter IsFromFive (4 ∷ 7 ∷ []) (4 ∷ []) → ⊥
not_the_false_ones h = absurd (cc (filter_is (4 ∷ 7 ∷ []) (4 ∷ []) h))

not_all_of_them : IsFilter IsFromFive (4 ∷ 7 ∷ []) (4 ∷ 7 ∷ []) → ⊥
not_all_of_them h = absurd (cc (filter_is (4 ∷ 7 ∷ []) (4 ∷ 7 ∷ []) h))

not_only_once : IsFilter IsFromFive (7 ∷ 7 ∷ []) (7 ∷ []) → ⊥
not_only_once h = absurd (cc (filter_is (7 ∷ 7 ∷ []) (7 ∷ []) h))

not_in_another_order : IsFilter IsFromFive (7 ∷ 4 ∷ 5 ∷ []) (5 ∷ 7 ∷ []) → ⊥
not_in_another_order h = absurd (cc (filter_is (7 ∷ 4 ∷ 5 ∷ []) (5 ∷ 7 ∷ []) h))

-- both halves
both_of_a_split : IsSplit IsFromFive (4 ∷ 7 ∷ 0 ∷ 5 ∷ []) (7 ∷ 5 ∷ []) (4 ∷ 0 ∷ [])
both_of_a_split = (false ∷ true ∷ false ∷ true ∷ [], (refl, (refl, (refl, (refl, tt)))), refl, refl)

not_exchanged : IsSplit IsFromFive (4 ∷ 7 ∷ []) (4 ∷ []) (7 ∷ []) → ⊥
not_exchanged h = let (is, are) = split_is (4 ∷ 7 ∷ []) (4 ∷ []) (7 ∷ []) h in absurd (cc (is))

not_lost : IsSplit IsFromFive (4 ∷ 7 ∷ []) (7 ∷ []) [] → ⊥
not_lost h = let (is, are) = split_is (4 ∷ 7 ∷ []) (7 ∷ []) [] h in absurd (cc (are))

-- images one for one and in order
abbrev IsNext : ℕ → ℕ → Type 0
IsNext x y = y ≡ x + 1

some_mapped : AllZip IsNext (1 ∷ 5 ∷ 3 ∷ []) (2 ∷ 6 ∷ 4 ∷ [])
some_mapped = (refl, (refl, (refl, tt)))

not_the_first_ones_image : AllZip IsNext (1 ∷ 5 ∷ 3 ∷ []) (2 ∷ 2 ∷ 2 ∷ []) → ⊥
not_the_first_ones_image h = let second : 2 ≡ 6 = h.1.0 in absurd (omega (arith, second))

no_image_less : AllZip IsNext (1 ∷ 5 ∷ []) (2 ∷ []) → ⊥
no_image_less h = h.1

-- a sum is clamped once, at its end: over 2^50 it is 2^50, and where it comes back on its way it is exact

abbrev M : ℤ
M = pos 1125899906842624

sum_over_the_greatest : clamp (clipped_sum (neg_ℤ M) M (M ∷ pos 1 ∷ [])) ≡ M
sum_over_the_greatest = refl

sum_under_the_least : clamp (clipped_sum (neg_ℤ M) M (neg_ℤ M ∷ neg_ℤ M ∷ [])) ≡ neg_ℤ M
sum_under_the_least = refl

sum_that_comes_back : clamp (clipped_sum (neg_ℤ M) M (M ∷ M ∷ neg_ℤ M ∷ neg_ℤ (pos 5) ∷ [])) ≡ pos 1125899906842619
sum_that_comes_back = refl

not_clamped_row_by_row : clamp (clipped_sum (neg_ℤ M) M (M ∷ M ∷ neg_ℤ M ∷ neg_ℤ (pos 5) ∷ [])) ≡ neg_ℤ (pos 5) → ⊥
not_clamped_row_by_row h = absurd (cc h)

-- each is clipped before it is added, and the clipped sum is clamped
clipped_and_clamped : clamp (clipped_sum (pos 0) (pos 10) (M ∷ neg_ℤ M ∷ pos 7 ∷ [])) ≡ pos 17
clipped_and_clamped = refl
