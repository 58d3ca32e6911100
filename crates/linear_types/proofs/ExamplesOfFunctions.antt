-- The rows of functions, bangs and lets at worked examples: both sides of each condition, and each fault's data.
use Rattle.std.proofs.Common.{refl}
use Rattle.std.specs.Prelude.{[], ◌∷◌, ◌≡◌}
use Rattle.fz_ast.specs.Terms.{AppE, BangE, FnE, FunE, LeE, LetBangE, LetE, PlusE}
use Rattle.fz_ast.specs.Types.{ArrowT, BagT, BangT, NumT, SumT, TextT, UnlimitedT}
use Rattle.fz_frac.specs.Distance.{Fin, Inf, none, one}
use Rattle.fz_frac.specs.Lowest.{gcd, gcd_in, is_out}
use Rattle.linear_types.proofs.ExampleTerms.{a_number, a_text, given, given_and_n, missing, n, part, span, times, var, whole, whole_number, x, y}
use Rattle.linear_types.specs.Inferred.{ABang, AnArrow, Exactly, Has, Mismatch, NotFlat, NotGround, Range, Untyped, TooSensitive, Unbound}
use Rattle.linear_types.specs.Rule.{rule}

-- fun (y : T) => e: y at most 1
linear_functions :
    (rule (given NumT) (whole (FunE y (span 4) NumT (part 1 (PlusE (var 2 y) (times 3 2 x))))) ≡ Has (ArrowT NumT NumT) (whole_number 2 ∷ []))
    × (rule (given NumT) (whole (FunE y (span 4) NumT (times 1 2 y))) ≡ Untyped (TooSensitive (span 0) y (whole_number 2)))
    × (rule (given NumT) (whole (FunE y (span 4) NumT (var 1 x))) ≡ Has (ArrowT NumT NumT) (one ∷ []))
    × (rule (given NumT) (whole (FunE y (span 4) (BangT (Fin 2 1) NumT) (part 1 (LetBangE y (var 2 y) (times 3 3 y))))) ≡ Untyped (TooSensitive (span 0) y (Fin 3 2)))
    × (rule (given NumT) (whole (FunE y (span 4) (BangT (Fin 3 1) NumT) (part 1 (LetBangE y (var 2 y) (times 3 3 y))))) ≡ Has (ArrowT (BangT (Fin 3 1) NumT) NumT) [])
    × (rule (given NumT) (whole (FunE y (span 4) (ArrowT NumT TextT) (var 1 y))) ≡ Has (ArrowT (ArrowT NumT TextT) (ArrowT NumT TextT)) [])
    × (rule (given NumT) (whole (FunE y (span 4) (BagT (BagT NumT)) (missing 1))) ≡ Untyped (Unbound (span 1)))
    × (rule (given NumT) (whole (FunE y (span 4) (BagT (BagT NumT)) (part 1 (LeE (times 2 2 x) (a_text 3))))) ≡ Untyped (Mismatch (span 3) TextT (Exactly NumT)))
    × (rule (given NumT) (whole (FunE y (span 4) (BagT (BagT NumT)) (var 1 y))) ≡ Untyped (NotFlat (span 4)))
    × (rule (given NumT) (whole (FunE y (span 4) (SumT (ArrowT NumT NumT) NumT) (var 1 y))) ≡ Untyped (NotGround (span 4)))
unfolding is_out gcd gcd_in
linear_functions = (refl, refl, refl, refl, refl, refl, refl, refl, refl, refl)

-- fn (y : T) => e
unlimited_functions :
    (rule (given NumT) (whole (FnE y (span 4) NumT (part 1 (PlusE (times 2 2 y) (times 3 3 x))))) ≡ Has (UnlimitedT NumT NumT) (whole_number 3 ∷ []))
    × (rule (given NumT) (whole (FnE y (span 4) TextT (var 1 y))) ≡ Has (ArrowT (BangT Inf TextT) TextT) [])
    × (rule (given NumT) (whole (FnE y (span 4) (BagT (BagT NumT)) (missing 1))) ≡ Untyped (Unbound (span 1)))
    × (rule (given NumT) (whole (FnE y (span 4) (BagT (BagT NumT)) (var 1 y))) ≡ Untyped (NotFlat (span 4)))
    × (rule (given NumT) (whole (FnE y (span 4) (SumT NumT (ArrowT NumT NumT)) (var 1 y))) ≡ Untyped (NotGround (span 4)))
unfolding is_out gcd gcd_in
unlimited_functions = (refl, refl, refl, refl, refl)

-- f a
applications :
    (rule (given_and_n (ArrowT NumT TextT)) (whole (AppE (var 1 x) (times 2 2 n))) ≡ Has TextT (one ∷ whole_number 2 ∷ []))
    × (rule (given_and_n (ArrowT NumT TextT)) (whole (AppE (var 1 n) (var 2 x))) ≡ Untyped (Mismatch (span 1) NumT AnArrow))
    × (rule (given_and_n (ArrowT NumT TextT)) (whole (AppE (var 1 x) (var 2 x))) ≡ Untyped (Mismatch (span 2) (ArrowT NumT TextT) (Exactly NumT)))
    × (rule (given_and_n (UnlimitedT NumT TextT)) (whole (AppE (var 1 x) (var 2 n))) ≡ Untyped (Mismatch (span 2) NumT (Exactly (BangT Inf NumT))))
    × (rule (given NumT) (whole (AppE (var 1 x) (missing 2))) ≡ Untyped (Unbound (span 2)))
    × (rule (given NumT) (whole (AppE (part 1 (FunE y (span 4) NumT (times 5 4294967294 x))) (var 2 x))) ≡ Has NumT (whole_number 4294967295 ∷ []))
    × (rule (given NumT) (whole (AppE (part 1 (FunE y (span 4) NumT (times 5 4294967295 x))) (var 2 x))) ≡ Untyped (Range (span 0)))
unfolding is_out gcd gcd_in
applications = (refl, refl, refl, refl, refl, refl, refl)

-- ![r] e
bangs :
    (rule (given NumT) (whole (BangE (Fin 3 1) (times 1 2 x))) ≡ Has (BangT (Fin 3 1) NumT) (whole_number 6 ∷ []))
    × (rule (given NumT) (whole (BangE (Fin 1 2) (var 1 x))) ≡ Has (BangT (Fin 1 2) NumT) (Fin 1 2 ∷ []))
    × (rule (given NumT) (whole (BangE Inf (var 1 x))) ≡ Has (BangT Inf NumT) (Inf ∷ []))
    × (rule (given NumT) (whole (BangE Inf (times 1 0 x))) ≡ Has (BangT Inf NumT) (none ∷ []))
    × (rule (given NumT) (whole (BangE (Fin 2 1) (times 1 2147483647 x))) ≡ Has (BangT (Fin 2 1) NumT) (whole_number 4294967294 ∷ []))
    × (rule (given NumT) (whole (BangE (Fin 2 1) (times 1 2147483648 x))) ≡ Untyped (Range (span 0)))
    × (rule (given NumT) (whole (BangE (Fin 2 1) (missing 1))) ≡ Untyped (Unbound (span 1)))
unfolding is_out gcd gcd_in
bangs = (refl, refl, refl, refl, refl, refl, refl)

-- let !y = e in b: the least that suffices over a finite bang, and over inf 0 or 1
let_bangs :
    (rule (given_and_n (BangT (Fin 2 1) NumT)) (whole (LetBangE y (var 1 x) (part 2 (PlusE (times 5 3 y) (times 6 5 n))))) ≡ Has NumT (Fin 3 2 ∷ whole_number 5 ∷ []))
    × (rule (given (BangT (Fin 1 2) NumT)) (whole (LetBangE y (var 1 x) (times 2 3 y))) ≡ Has NumT (whole_number 6 ∷ []))
    × (rule (given (BangT (Fin 2 1) TextT)) (whole (LetBangE y (var 1 x) (a_number 2))) ≡ Has NumT (Fin 0 2 ∷ []))
    × (rule (given (BangT Inf NumT)) (whole (LetBangE y (var 1 x) (times 2 3 y))) ≡ Has NumT (one ∷ []))
    × (rule (given (BangT Inf TextT)) (whole (LetBangE y (var 1 x) (a_number 2))) ≡ Has NumT (none ∷ []))
    × (rule (given (BangT (Fin 2 1) NumT)) (whole (LetBangE y (var 1 x) (part 2 (BangE Inf (var 3 y))))) ≡ Has (BangT Inf NumT) (Inf ∷ []))
    × (rule (given (BangT Inf NumT)) (whole (LetBangE y (var 1 x) (part 2 (BangE Inf (var 3 y))))) ≡ Has (BangT Inf NumT) (one ∷ []))
    × (rule (given NumT) (whole (LetBangE y (var 1 x) (missing 2))) ≡ Untyped (Mismatch (span 1) NumT ABang))
    × (rule (given (BangT Inf NumT)) (whole (LetBangE y (var 1 x) (missing 2))) ≡ Untyped (Unbound (span 2)))
    × (rule (given (BangT (Fin 1 2) NumT)) (whole (LetBangE y (var 1 x) (times 2 2147483647 y))) ≡ Has NumT (whole_number 4294967294 ∷ []))
    × (rule (given (BangT (Fin 1 2) NumT)) (whole (LetBangE y (var 1 x) (times 2 2147483648 y))) ≡ Untyped (Range (span 0)))
unfolding is_out gcd gcd_in
let_bangs = (refl, refl, refl, refl, refl, refl, refl, refl, refl, refl, refl)

-- the number over the bang is in range by itself, also where e has no name: let !y = ![1/2] 7 in 2^31 * y
quotient_alone : rule (given NumT) (whole (LetBangE y (part 1 (BangE (Fin 1 2) (a_number 5))) (times 2 2147483648 y))) ≡ Untyped (Range (span 0))
unfolding is_out gcd gcd_in
quotient_alone = refl

-- let y = e in b
lets :
    (rule (given NumT) (whole (LetE y (times 1 2 x) (part 2 (PlusE (times 5 3 y) (var 6 x))))) ≡ Has NumT (whole_number 7 ∷ []))
    × (rule (given TextT) (whole (LetE y (a_number 1) (var 2 x))) ≡ Has TextT (one ∷ []))
    × (rule (given TextT) (whole (LetE x (a_number 1) (var 2 x))) ≡ Has NumT [])
    × (rule (given NumT) (whole (LetE y (missing 1) (missing 2))) ≡ Untyped (Unbound (span 1)))
    × (rule (given NumT) (whole (LetE y (var 1 x) (missing 2))) ≡ Untyped (Unbound (span 2)))
    × (rule (given NumT) (whole (LetE y (times 1 4294967295 x) (var 2 y))) ≡ Has NumT (whole_number 4294967295 ∷ []))
    × (rule (given NumT) (whole (LetE y (times 1 4294967295 x) (times 2 2 y))) ≡ Untyped (Range (span 0)))
unfolding is_out gcd gcd_in
lets = (refl, refl, refl, refl, refl, refl, refl)
