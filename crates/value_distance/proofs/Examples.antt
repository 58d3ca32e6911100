-- The definitions at worked elements, values and distances.
use Rattle.std.proofs.Common.{◌≡◌, ◌∙◌, refl, sym}
use Rattle.std.specs.Prelude.{[], ◌∷◌, codes, false, neg_ℤ, pos, true, Err, Ok}
use Rattle.std.proofs.lemmas.Bool.{false≢true}
use Rattle.std.specs.declared.cmp.Ordering.TheVariants.{Equal, Greater, Less}
use Rattle.fz_ast.specs.Types.{BagT, BangT, NumT, SumT, TensorT, TextT, UnitT, WithT}
use Rattle.fz_frac.specs.Distance.{Fin, Inf}
use Rattle.fz_frac.specs.Lowest.{gcd, gcd_in}
use Rattle.metric_values.specs.Distances.{bag_distance}
use Rattle.metric_values.specs.Values.{BagV, BangF, BangV, InlF, InlV, InrF, InrV, NumF, NumV, PairF, PairV, TextF, TextV, UnitF, UnitV}
use Rattle.value_distance.specs.Answers.{IsDistanceAnswer}
use Rattle.value_distance.specs.Widths.{is_too_wide, some_wide}
use Rattle.value_distance.specs.declared.dist.Dist.TheVariants.{Inf as Endless}
use Rattle.value_distance.specs.declared.dist.DistFault.TheVariants.{Range}
use Rattle.value_distance.specs.Order.{element_cmp}

-- 2 and 3 against 1, 2 and 2: a 3 is left on the one side, a 1 and a 2 on the other
as_often_as_each : bag_distance (NumF (pos 2) ∷ NumF (pos 3) ∷ []) (NumF (pos 1) ∷ NumF (pos 2) ∷ NumF (pos 2) ∷ []) ≡ 3
as_often_as_each = refl

-- the order: numbers by size, texts by bytes, the first half of a pair before the second, a cell before a pair
below_zero : element_cmp (NumF (neg_ℤ (pos 1))) (NumF (pos 0)) ≡ Less
below_zero = refl

prefix_first : element_cmp (TextF (codes "ab")) (TextF (codes "a")) ≡ Greater
prefix_first = refl

first_half_decides : element_cmp (PairF (NumF (pos 1)) (NumF (pos 9))) (PairF (NumF (pos 2)) (NumF (pos 0))) ≡ Less
first_half_decides = refl

second_half_decides : element_cmp (PairF (NumF (pos 1)) (NumF (pos 9))) (PairF (NumF (pos 1)) (NumF (pos 0))) ≡ Greater
second_half_decides = refl

cell_first : element_cmp (NumF (pos 9)) (PairF (NumF (pos 1)) UnitF) ≡ Less
cell_first = refl

alike : element_cmp (InlF (BangF UnitF)) (InlF (BangF UnitF)) ≡ Equal
alike = refl

other_side : element_cmp (InlF UnitF) (InrF UnitF) ≡ Less
other_side = refl

-- a numerator or denominator at the greatest, one over it, and one that is reduced
widest_fits : is_too_wide (Fin 9223372036854775807 1) ≡ false
unfolding gcd gcd_in
widest_fits = refl

next_is_wide : is_too_wide (Fin 9223372036854775808 1) ≡ true
unfolding gcd gcd_in
next_is_wide = refl

reduced_fits : is_too_wide (Fin 18446744073709551614 2) ≡ false
unfolding gcd gcd_in
reduced_fits = refl

endless_fits : is_too_wide Inf ≡ false
endless_fits = refl

-- a part that is wide makes the whole so, also beside a part at no finite distance
wide_inside : some_wide (TensorT (BangT (Fin 9223372036854775808 1) NumT) TextT) (PairV (BangV (NumV (pos 1))) (TextV (codes "a"))) (PairV (BangV (NumV (pos 0))) (TextV (codes "b"))) ≡ true
unfolding gcd gcd_in
wide_inside = refl

-- where injections differ no part is reached
not_reached : some_wide (SumT (BangT (Fin 9223372036854775808 1) NumT) UnitT) (InlV (BangV (NumV (pos 1)))) (InrV UnitV) ≡ false
not_reached = refl

reached : some_wide (SumT (BangT (Fin 9223372036854775808 1) NumT) UnitT) (InlV (BangV (NumV (pos 1)))) (InlV (BangV (NumV (pos 0)))) ≡ true
unfolding gcd gcd_in
reached = refl

-- the sum of two that fit may not
sum_is_wide : some_wide (TensorT (BangT (Fin 9223372036854775807 1) NumT) NumT) (PairV (BangV (NumV (pos 1))) (NumV (pos 1))) (PairV (BangV (NumV (pos 0))) (NumV (pos 0))) ≡ true
unfolding gcd gcd_in
sum_is_wide = refl

greater_fits : some_wide (WithT (BangT (Fin 9223372036854775807 1) NumT) NumT) (PairV (BangV (NumV (pos 1))) (NumV (pos 1))) (PairV (BangV (NumV (pos 0))) (NumV (pos 0))) ≡ false
unfolding gcd gcd_in
greater_fits = refl

empty_bags : some_wide (BagT NumT) (BagV []) (BagV []) ≡ false
unfolding gcd gcd_in
empty_bags = refl

-- infinity isn't answered where a part is wide
not_answered : IsDistanceAnswer (Ok Endless) (TensorT (BangT (Fin 9223372036854775808 1) NumT) TextT) (PairV (BangV (NumV (pos 1))) (TextV (codes "a"))) (PairV (BangV (NumV (pos 0))) (TextV (codes "b"))) → ⊥
not_answered h = false≢true (sym h.1 ∙ wide_inside)

other_texts : IsDistanceAnswer (Ok Endless) TextT (TextV (codes "a")) (TextV (codes "b"))
other_texts = (refl, refl)

unit_fits : some_wide UnitT UnitV UnitV ≡ false
unfolding gcd gcd_in
unit_fits = refl

-- nor `Range` where all fits
no_range : IsDistanceAnswer (Err Range) UnitT UnitV UnitV → ⊥
no_range h = false≢true (sym unit_fits ∙ h)
