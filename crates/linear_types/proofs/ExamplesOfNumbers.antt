-- The rows of numbers, comparisons and words on with-pairs at worked examples: both sides of each condition, and each fault's data.
use Rattle.std.proofs.Common.{refl}
use Rattle.std.specs.Prelude.{[], negsuc, pos, ◌∷◌, ◌≡◌}
use Rattle.fz_ast.specs.Terms.{ClipE, EqE, GreatestE, LeE, LeastE, MinusE, PlusE, TimesE}
use Rattle.fz_ast.specs.Types.{BagT, BoolT, NumT, TensorT, TextT, UnitT, WithT}
use Rattle.fz_frac.specs.Distance.{Inf, none, one}
use Rattle.fz_frac.specs.Lowest.{gcd, gcd_in, is_out}
use Rattle.linear_types.proofs.ExampleTerms.{a_number, a_text, given, given_and_n, missing, n, part, span, times, var, whole, whole_number, x}
use Rattle.linear_types.specs.Inferred.{ANumberOrText, Exactly, Has, Mismatch, Range, Untyped, Unbound}
use Rattle.linear_types.specs.Rule.{rule}

-- a + b: a fault of a part comes before what the parts are together
sums :
    (rule (given NumT) (whole (PlusE (times 1 2 x) (times 2 3 x))) ≡ Has NumT (whole_number 5 ∷ []))
    × (rule (given TextT) (whole (PlusE (var 1 x) (var 2 x))) ≡ Untyped (Mismatch (span 1) TextT (Exactly NumT)))
    × (rule (given TextT) (whole (PlusE (a_number 1) (var 2 x))) ≡ Untyped (Mismatch (span 2) TextT (Exactly NumT)))
    × (rule (given TextT) (whole (PlusE (var 1 x) (missing 2))) ≡ Untyped (Unbound (span 2)))
    × (rule (given TextT) (whole (PlusE (var 1 x) (part 2 (TimesE (pos 4294967296) (a_number 3))))) ≡ Untyped (Range (span 2)))
    × (rule (given TextT) (whole (PlusE (part 1 (TimesE (pos 4294967296) (a_number 3))) (missing 2))) ≡ Untyped (Range (span 1)))
    × (rule (given NumT) (whole (PlusE (times 1 4294967294 x) (var 2 x))) ≡ Has NumT (whole_number 4294967295 ∷ []))
    × (rule (given NumT) (whole (PlusE (times 1 4294967295 x) (var 2 x))) ≡ Untyped (Range (span 0)))
unfolding is_out gcd gcd_in
sums = (refl, refl, refl, refl, refl, refl, refl, refl)

-- a - b
differences :
    (rule (given NumT) (whole (MinusE (times 1 3 x) (times 2 2 x))) ≡ Has NumT (whole_number 5 ∷ []))
    × (rule (given NumT) (whole (MinusE (var 1 x) (var 2 x))) ≡ Has NumT (whole_number 2 ∷ []))
    × (rule (given TextT) (whole (MinusE (var 1 x) (var 2 x))) ≡ Untyped (Mismatch (span 1) TextT (Exactly NumT)))
    × (rule (given TextT) (whole (MinusE (a_number 1) (var 2 x))) ≡ Untyped (Mismatch (span 2) TextT (Exactly NumT)))
    × (rule (given NumT) (whole (MinusE (times 1 4294967295 x) (var 2 x))) ≡ Untyped (Range (span 0)))
unfolding is_out gcd gcd_in
differences = (refl, refl, refl, refl, refl)

-- k * e: the factor's size, which is in range by itself
products :
    (rule (given NumT) (whole (TimesE (negsuc 2) (times 1 2 x))) ≡ Has NumT (whole_number 6 ∷ []))
    × (rule (given NumT) (whole (TimesE (pos 0) (var 1 x))) ≡ Has NumT (none ∷ []))
    × (rule (given TextT) (whole (TimesE (pos 4294967296) (var 1 x))) ≡ Untyped (Mismatch (span 1) TextT (Exactly NumT)))
    × (rule (given NumT) (whole (TimesE (pos 4294967295) (var 1 x))) ≡ Has NumT (whole_number 4294967295 ∷ []))
    × (rule (given NumT) (whole (TimesE (negsuc 4294967294) (var 1 x))) ≡ Has NumT (whole_number 4294967295 ∷ []))
    × (rule (given NumT) (whole (TimesE (pos 4294967296) (a_number 1))) ≡ Untyped (Range (span 0)))
    × (rule (given NumT) (whole (TimesE (negsuc 4294967295) (a_number 1))) ≡ Untyped (Range (span 0)))
    × (rule (given NumT) (whole (TimesE (pos 2) (times 1 2147483648 x))) ≡ Untyped (Range (span 0)))
unfolding is_out gcd gcd_in
products = (refl, refl, refl, refl, refl, refl, refl, refl)

-- a <= b
comparisons :
    (rule (given_and_n NumT) (whole (LeE (times 1 2 x) (var 2 n))) ≡ Has BoolT (Inf ∷ Inf ∷ []))
    × (rule (given NumT) (whole (LeE (times 1 0 x) (a_number 2))) ≡ Has BoolT (none ∷ []))
    × (rule (given NumT) (whole (LeE (a_number 1) (a_number 2))) ≡ Has BoolT [])
    × (rule (given TextT) (whole (LeE (var 1 x) (var 2 x))) ≡ Untyped (Mismatch (span 1) TextT (Exactly NumT)))
    × (rule (given TextT) (whole (LeE (a_number 1) (var 2 x))) ≡ Untyped (Mismatch (span 2) TextT (Exactly NumT)))
unfolding is_out gcd gcd_in
comparisons = (refl, refl, refl, refl, refl)

-- a == b of numbers and of texts, and of nothing else
equalities :
    (rule (given_and_n NumT) (whole (EqE (var 1 x) (times 2 2 n))) ≡ Has BoolT (Inf ∷ Inf ∷ []))
    × (rule (given TextT) (whole (EqE (var 1 x) (var 2 x))) ≡ Has BoolT (whole_number 2 ∷ []))
    × (rule (given TextT) (whole (EqE (var 1 x) (a_text 2))) ≡ Has BoolT (one ∷ []))
    × (rule (given TextT) (whole (EqE (a_number 1) (var 2 x))) ≡ Untyped (Mismatch (span 2) TextT (Exactly NumT)))
    × (rule (given NumT) (whole (EqE (a_text 1) (var 2 x))) ≡ Untyped (Mismatch (span 2) NumT (Exactly TextT)))
    × (rule (given BoolT) (whole (EqE (var 1 x) (var 2 x))) ≡ Untyped (Mismatch (span 1) BoolT ANumberOrText))
    × (rule (given (BagT NumT)) (whole (EqE (var 1 x) (a_text 2))) ≡ Untyped (Mismatch (span 1) (BagT NumT) ANumberOrText))
    × (rule (given UnitT) (whole (EqE (var 1 x) (missing 2))) ≡ Untyped (Unbound (span 2)))
unfolding is_out gcd gcd_in
equalities = (refl, refl, refl, refl, refl, refl, refl, refl)

-- clip[lo,hi] e, also with lo over hi
clips :
    (rule (given NumT) (whole (ClipE (pos 0) (pos 9) (times 1 3 x))) ≡ Has NumT (whole_number 3 ∷ []))
    × (rule (given NumT) (whole (ClipE (pos 9) (negsuc 8) (times 1 3 x))) ≡ Has NumT (whole_number 3 ∷ []))
    × (rule (given NumT) (whole (ClipE (pos 0) (pos 1125899906842624) (var 1 x))) ≡ Has NumT (one ∷ []))
    × (rule (given TextT) (whole (ClipE (pos 0) (pos 9) (var 1 x))) ≡ Untyped (Mismatch (span 1) TextT (Exactly NumT)))
unfolding is_out gcd gcd_in
clips = (refl, refl, refl, refl)

-- least e, greatest e
least_and_greatest :
    (rule (given (WithT NumT NumT)) (whole (LeastE (var 1 x))) ≡ Has NumT (one ∷ []))
    × (rule (given (WithT NumT NumT)) (whole (GreatestE (var 1 x))) ≡ Has NumT (one ∷ []))
    × (rule (given (WithT NumT TextT)) (whole (LeastE (var 1 x))) ≡ Untyped (Mismatch (span 1) (WithT NumT TextT) (Exactly (WithT NumT NumT))))
    × (rule (given (TensorT NumT NumT)) (whole (GreatestE (var 1 x))) ≡ Untyped (Mismatch (span 1) (TensorT NumT NumT) (Exactly (WithT NumT NumT))))
least_and_greatest = (refl, refl, refl, refl)
