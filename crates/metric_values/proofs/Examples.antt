-- The definitions at worked numbers, elements, values and datasets: at their limits, and on both sides of each choice.
use Rattle.std.proofs.Common.{arith, refl}
use Rattle.std.proofs.lemmas.Int.{ints}
use Rattle.std.proofs.lemmas.List.Elements.{All-cons, All-head, All-nil}
use Rattle.std.specs.Prelude.{List, None, Some, [], codes, false, neg_ℤ, pos, replicate, true, ℕ, ◌∷◌, ◌≡◌}
use Rattle.fz_frac.specs.Distance.{Fin, Inf, none}
use Rattle.fz_ast.specs.Signature.{Signature}
use Rattle.fz_ast.specs.Types.{ArrowT, BagT, BangT, NumT, SumT, TensorT, TextT, UnitT, WithT}
use Rattle.metric_values.specs.Distances.{bag_distance, distance_between, gap, same_element, same_number, without}
use Rattle.metric_values.specs.Numbers.{clamp, clip, clipped_sum}
use Rattle.metric_values.specs.Tables.{IsDataset, apart, rows_of}
use Rattle.metric_values.specs.Typed.{TypedFlat, TypedGround}
use Rattle.metric_values.specs.Values.{BagV, BangF, BangV, Bind, Empty, Flat, InlF, InlV, InrF, InrV, NumF, NumV, PairF, PairV, TextF, TextV, UnitF, UnitV, Value, truth, value_of}

-- clamp: within -M..M, M being 2^50

inside_stays : clamp (pos 5) ≡ pos 5
inside_stays = refl

greatest_stays : clamp (pos 1125899906842624) ≡ pos 1125899906842624
greatest_stays = refl

above_is_greatest : clamp (pos 1125899906842625) ≡ pos 1125899906842624
above_is_greatest = refl

least_stays : clamp (neg_ℤ (pos 1125899906842624)) ≡ neg_ℤ (pos 1125899906842624)
least_stays = refl

below_is_least : clamp (neg_ℤ (pos 1125899906842625)) ≡ neg_ℤ (pos 1125899906842624)
below_is_least = refl

-- clip: max(lo, min(hi, z))

below_is_lo : clip (pos 2) (pos 10) (neg_ℤ (pos 5)) ≡ pos 2
below_is_lo = refl

between_stays : clip (pos 2) (pos 10) (pos 7) ≡ pos 7
between_stays = refl

above_is_hi : clip (pos 2) (pos 10) (pos 15) ≡ pos 10
above_is_hi = refl

lo_over_hi_below : clip (pos 10) (pos 2) (pos 1) ≡ pos 10
lo_over_hi_below = refl

lo_over_hi_between : clip (pos 10) (pos 2) (pos 7) ≡ pos 10
lo_over_hi_between = refl

lo_over_hi_above : clip (pos 10) (pos 2) (pos 15) ≡ pos 10
lo_over_hi_above = refl

-- a clipped sum: each is clipped, and no part of the sum is

each_is_clipped : clipped_sum (pos 0) (pos 10) (neg_ℤ (pos 5) ∷ pos 7 ∷ pos 25 ∷ []) ≡ pos 17
each_is_clipped = refl

nothing_adds_nothing : clipped_sum (pos 1) (pos 10) [] ≡ pos 0
nothing_adds_nothing = refl

each_adds_lo : clipped_sum (pos 10) (pos 2) (pos 1 ∷ pos 7 ∷ []) ≡ pos 20
each_adds_lo = refl

the_sum_is_exact : clipped_sum (neg_ℤ (pos 1125899906842624)) (pos 1125899906842624) (pos 1125899906842624 ∷ pos 1125899906842624 ∷ []) ≡ pos 2251799813685248
the_sum_is_exact = refl

-- numbers

upwards : gap (pos 2) (pos 5) ≡ 3
upwards = refl

downwards : gap (pos 5) (pos 2) ≡ 3
downwards = refl

across_zero : gap (neg_ℤ (pos 2)) (pos 3) ≡ 5
across_zero = refl

equal_numbers : same_number (pos 1) (pos 1) ≡ true
equal_numbers = refl

less_is_another : same_number (pos 1) (pos 2) ≡ false
less_is_another = refl

more_is_another : same_number (pos 2) (pos 1) ≡ false
more_is_another = refl

-- elements

same_elements :
    (same_element (NumF (pos 1)) (NumF (pos 1)) ≡ true)
    × (same_element (TextF (codes "a")) (TextF (codes "a")) ≡ true)
    × (same_element UnitF UnitF ≡ true)
    × (same_element (PairF (NumF (pos 1)) UnitF) (PairF (NumF (pos 1)) UnitF) ≡ true)
    × (same_element (InlF UnitF) (InlF UnitF) ≡ true)
    × (same_element (InrF UnitF) (InrF UnitF) ≡ true)
    × (same_element (BangF UnitF) (BangF UnitF) ≡ true)
same_elements = (refl, refl, refl, refl, refl, refl, refl)

other_elements :
    (same_element (NumF (pos 1)) (NumF (pos 2)) ≡ false)
    × (same_element (TextF (codes "a")) (TextF (codes "b")) ≡ false)
    × (same_element (PairF (NumF (pos 1)) UnitF) (PairF (NumF (pos 2)) UnitF) ≡ false)
    × (same_element (PairF UnitF (NumF (pos 1))) (PairF UnitF (NumF (pos 2))) ≡ false)
    × (same_element (InlF UnitF) (InrF UnitF) ≡ false)
    × (same_element (InlF (NumF (pos 1))) (InlF (NumF (pos 2))) ≡ false)
    × (same_element (InrF (NumF (pos 1))) (InrF (NumF (pos 2))) ≡ false)
    × (same_element (BangF (NumF (pos 1))) (BangF (NumF (pos 2))) ≡ false)
    × (same_element (BangF UnitF) UnitF ≡ false)
other_elements = (refl, refl, refl, refl, refl, refl, refl, refl, refl)

as_values :
    (value_of (NumF (pos 1)) ≡ NumV (pos 1))
    × (value_of (TextF (codes "a")) ≡ TextV (codes "a"))
    × (value_of UnitF ≡ UnitV)
    × (value_of (PairF UnitF (NumF (pos 1))) ≡ PairV UnitV (NumV (pos 1)))
    × (value_of (InlF UnitF) ≡ InlV UnitV)
    × (value_of (InrF UnitF) ≡ InrV UnitV)
    × (value_of (BangF UnitF) ≡ BangV UnitV)
as_values = (refl, refl, refl, refl, refl, refl, refl)

true_is_inl : truth true ≡ InlV UnitV
true_is_inl = refl

false_is_inr : truth false ≡ InrV UnitV
false_is_inr = refl

-- bags: what is left on both sides, with multiplicity

abbrev one : Flat
one = NumF (pos 1)

abbrev two : Flat
two = NumF (pos 2)

first_alone_goes : without one (two ∷ one ∷ two ∷ one ∷ []) ≡ Some (two ∷ two ∷ one ∷ [])
first_alone_goes = refl

none_to_remove : without one (two ∷ []) ≡ None
none_to_remove = refl

order_is_nothing : bag_distance (one ∷ two ∷ []) (two ∷ one ∷ []) ≡ 0
order_is_nothing = refl

left_is_counted : bag_distance (one ∷ one ∷ two ∷ []) (one ∷ []) ≡ 2
left_is_counted = refl

right_is_counted : bag_distance (one ∷ []) (two ∷ one ∷ two ∷ []) ≡ 2
right_is_counted = refl

both_are_counted : bag_distance (one ∷ []) (two ∷ []) ≡ 2
both_are_counted = refl

as_often_as_it_is_there : bag_distance (one ∷ one ∷ two ∷ []) (one ∷ two ∷ two ∷ []) ≡ 2
as_often_as_it_is_there = refl

-- distances by the type

abbrev at : ℕ → Value
at n = NumV (pos n)

far_numbers : distance_between NumT (at 2) (at 5) ≡ Fin 3 1
far_numbers = refl

same_text : distance_between TextT (TextV (codes "a")) (TextV (codes "a")) ≡ none
same_text = refl

another_text : distance_between TextT (TextV (codes "a")) (TextV (codes "b")) ≡ Inf
another_text = refl

one_unit : distance_between UnitT UnitV UnitV ≡ none
one_unit = refl

tensors_add : distance_between (TensorT NumT NumT) (PairV (at 1) (at 2)) (PairV (at 4) (at 7)) ≡ Fin 8 1
tensors_add = refl

greater_first : distance_between (WithT NumT NumT) (PairV (at 1) (at 2)) (PairV (at 9) (at 7)) ≡ Fin 8 1
greater_first = refl

greater_second : distance_between (WithT NumT NumT) (PairV (at 1) (at 2)) (PairV (at 4) (at 7)) ≡ Fin 5 1
greater_second = refl

both_inl : distance_between (SumT NumT UnitT) (InlV (at 2)) (InlV (at 5)) ≡ Fin 3 1
both_inl = refl

both_inr : distance_between (SumT UnitT NumT) (InrV (at 2)) (InrV (at 5)) ≡ Fin 3 1
both_inr = refl

inl_to_inr : distance_between (SumT NumT NumT) (InlV (at 2)) (InrV (at 2)) ≡ Inf
inl_to_inr = refl

inr_to_inl : distance_between (SumT NumT NumT) (InrV (at 2)) (InlV (at 2)) ≡ Inf
inr_to_inl = refl

bangs_scale : distance_between (BangT (Fin 3 2) NumT) (BangV (at 1)) (BangV (at 5)) ≡ Fin 12 2
bangs_scale = refl

endless_bang : distance_between (BangT Inf NumT) (BangV (at 1)) (BangV (at 2)) ≡ Inf
endless_bang = refl

endless_bang_of_equals : distance_between (BangT Inf NumT) (BangV (at 1)) (BangV (at 1)) ≡ none
endless_bang_of_equals = refl

-- an element that changed by 4 counts as one removed and one added
bags_count : distance_between (BagT NumT) (BagV (NumF (pos 1) ∷ [])) (BagV (NumF (pos 5) ∷ [])) ≡ Fin 2 1
bags_count = refl

not_of_the_type : distance_between NumT (at 1) UnitV ≡ Inf
not_of_the_type = refl

-- datasets

two_tables : apart ((one ∷ two ∷ []) ∷ (one ∷ []) ∷ []) ((one ∷ []) ∷ (one ∷ one ∷ two ∷ []) ∷ []) ≡ 3
two_tables = refl

abbrev tables : Signature
tables = record { name = codes "a"; row = NumT } ∷ record { name = codes "b"; row = TextT } ∷ []

abbrev words : List Flat
words = TextF (codes "w") ∷ []

in_order : rows_of tables ((one ∷ []) ∷ words ∷ []) ≡ Bind (codes "a") (BagV (one ∷ [])) (Bind (codes "b") (BagV words) Empty)
in_order = refl

rows_are_typed : IsDataset tables ((one ∷ []) ∷ words ∷ [])
rows_are_typed = (
  All-cons (TypedFlat NumT) one [] (omega (arith, ints)) (All-nil (TypedFlat NumT)),
  (All-cons (TypedFlat TextT) (TextF (codes "w")) [] (omega arith) (All-nil (TypedFlat TextT)), tt),
)

another_type : IsDataset tables (words ∷ words ∷ []) → ⊥
another_type h = All-head (TypedFlat NumT) (TextF (codes "w")) [] h.0

a_table_short : IsDataset tables ((one ∷ []) ∷ []) → ⊥
a_table_short h = h.1

a_table_more : IsDataset [] ([] ∷ []) → ⊥
a_table_more h = h

-- which values a type has

greatest_number : TypedFlat NumT (NumF (pos 1125899906842624))
greatest_number = omega (arith, ints)

above_the_greatest : TypedFlat NumT (NumF (pos 1125899906842625)) → ⊥
above_the_greatest h = omega (arith, ints, h.1)

below_the_least : TypedGround NumT (NumV (neg_ℤ (pos 1125899906842625))) → ⊥
below_the_least h = omega (arith, ints, h.0)

longest_text : TypedGround TextT (TextV (replicate 64 97))
longest_text = omega arith

longer_text : TypedFlat TextT (TextF (replicate 65 97)) → ⊥
longer_text h = omega (arith, h)

each_side_of_a_sum : TypedFlat (SumT NumT TextT) (InlF one) × TypedFlat (SumT NumT TextT) (InrF (TextF (codes "w")))
each_side_of_a_sum = (omega (arith, ints), omega arith)

on_the_other_side : (TypedFlat (SumT NumT TextT) (InrF one) → ⊥) × (TypedGround (SumT NumT TextT) (InlV (TextV (codes "w"))) → ⊥)
on_the_other_side = (λ h. h, λ h. h)

both_of_a_pair : (TypedFlat (TensorT NumT TextT) (PairF one one) → ⊥) × (TypedFlat (WithT NumT TextT) (PairF (TextF (codes "w")) (TextF (codes "w"))) → ⊥)
both_of_a_pair = (λ h. h.1, λ h. h.0)

no_functions : (TypedGround (ArrowT NumT NumT) (NumV (pos 1)) → ⊥) × (TypedFlat (BagT NumT) one → ⊥)
no_functions = (λ h. h, λ h. h)
