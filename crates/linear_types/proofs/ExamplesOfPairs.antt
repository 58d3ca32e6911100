-- The rows of names, constants and pairs at worked examples: both sides of each condition, and each fault's data.
use Rattle.std.proofs.Common.{refl}
use Rattle.std.specs.Prelude.{[], codes, pos, ◌∷◌, ◌≡◌}
use Rattle.fz_ast.specs.Terms.{FstE, LetPairE, NumE, PairE, PlusE, SndE, TextE, UnitE, WithE}
use Rattle.fz_ast.specs.Types.{NumT, TensorT, TextT, UnitT, WithT}
use Rattle.fz_frac.specs.Distance.{none, one}
use Rattle.fz_frac.specs.Lowest.{gcd, gcd_in, is_out}
use Rattle.linear_types.proofs.ExampleTerms.{a_number, a_text, given, given_and_n, missing, n, part, span, times, var, whole, whole_number, x, y}
use Rattle.linear_types.specs.Inferred.{ATensor, AWithPair, Has, Mismatch, Range, Untyped, Unbound}
use Rattle.linear_types.specs.Rule.{rule}
use Rattle.linear_types.specs.Typing.{Closed, Under}

-- the innermost of a name's types, at its place
names :
    (rule (Under x TextT (Under x NumT Closed)) (var 0 x) ≡ Has TextT (one ∷ []))
    × (rule (Under y TextT (Under x NumT Closed)) (var 0 x) ≡ Has NumT (none ∷ one ∷ []))
    × (rule (Under y TextT (Under x NumT Closed)) (missing 0) ≡ Untyped (Unbound (span 0)))
names = (refl, refl, refl)

constants :
    (rule (given NumT) (whole (NumE (pos 7))) ≡ Has NumT [])
    × (rule (given NumT) (whole (TextE (codes "a"))) ≡ Has TextT [])
    × (rule (given NumT) (whole UnitE) ≡ Has UnitT [])
constants = (refl, refl, refl)

-- (a, b): the sum, in range
pairs :
    (rule (given NumT) (whole (PairE (times 1 2 x) (times 2 3 x))) ≡ Has (TensorT NumT NumT) (whole_number 5 ∷ []))
    × (rule (given NumT) (whole (PairE (var 1 x) (a_text 2))) ≡ Has (TensorT NumT TextT) (one ∷ []))
    × (rule (given NumT) (whole (PairE (missing 1) (missing 2))) ≡ Untyped (Unbound (span 1)))
    × (rule (given NumT) (whole (PairE (var 1 x) (missing 2))) ≡ Untyped (Unbound (span 2)))
    × (rule (given NumT) (whole (PairE (times 1 4294967294 x) (var 2 x))) ≡ Has (TensorT NumT NumT) (whole_number 4294967295 ∷ []))
    × (rule (given NumT) (whole (PairE (times 1 4294967295 x) (var 2 x))) ≡ Untyped (Range (span 0)))
unfolding is_out gcd gcd_in
pairs = (refl, refl, refl, refl, refl, refl)

-- <a, b>: the greater, which is never out of range
with_pairs :
    (rule (given NumT) (whole (WithE (times 1 2 x) (times 2 3 x))) ≡ Has (WithT NumT NumT) (whole_number 3 ∷ []))
    × (rule (given NumT) (whole (WithE (times 1 3 x) (times 2 2 x))) ≡ Has (WithT NumT NumT) (whole_number 3 ∷ []))
    × (rule (given NumT) (whole (WithE (var 1 x) (a_text 2))) ≡ Has (WithT NumT TextT) (one ∷ []))
    × (rule (given NumT) (whole (WithE (missing 1) (missing 2))) ≡ Untyped (Unbound (span 1)))
    × (rule (given NumT) (whole (WithE (times 1 4294967295 x) (var 2 x))) ≡ Has (WithT NumT NumT) (whole_number 4294967295 ∷ []))
unfolding is_out gcd gcd_in
with_pairs = (refl, refl, refl, refl, refl)

-- fst e, snd e
halves_of_with_pairs :
    (rule (given (WithT NumT TextT)) (whole (FstE (var 1 x))) ≡ Has NumT (one ∷ []))
    × (rule (given (WithT NumT TextT)) (whole (SndE (var 1 x))) ≡ Has TextT (one ∷ []))
    × (rule (given (TensorT NumT TextT)) (whole (FstE (var 1 x))) ≡ Untyped (Mismatch (span 1) (TensorT NumT TextT) AWithPair))
    × (rule (given (TensorT NumT TextT)) (whole (SndE (var 1 x))) ≡ Untyped (Mismatch (span 1) (TensorT NumT TextT) AWithPair))
    × (rule (given NumT) (whole (SndE (missing 1))) ≡ Untyped (Unbound (span 1)))
halves_of_with_pairs = (refl, refl, refl, refl, refl)

-- let (x, y) = e in b: the greater of both names' times e's; the second of two equal names hides the first
let_pairs :
    (rule (given_and_n (TensorT NumT NumT)) (whole (LetPairE x y (var 1 x) (part 2 (PlusE (times 5 2 x) (times 6 3 y))))) ≡ Has NumT (whole_number 3 ∷ []))
    × (rule (given_and_n (TensorT NumT NumT)) (whole (LetPairE x y (var 1 x) (part 2 (PlusE (times 5 3 x) (times 6 2 y))))) ≡ Has NumT (whole_number 3 ∷ []))
    × (rule (given_and_n (TensorT NumT NumT)) (whole (LetPairE x y (var 1 x) (part 2 (PlusE (times 5 2 n) (var 6 y))))) ≡ Has NumT (one ∷ whole_number 2 ∷ []))
    × (rule (given_and_n (TensorT NumT NumT)) (whole (LetPairE x y (part 1 (PairE (times 5 2 n) (var 6 n))) (part 2 (PlusE (times 7 5 y) (var 8 n))))) ≡ Has NumT (none ∷ whole_number 16 ∷ []))
    × (rule (given (TensorT NumT TextT)) (whole (LetPairE x y (var 1 x) (var 2 x))) ≡ Has NumT (one ∷ []))
    × (rule (given (TensorT NumT TextT)) (whole (LetPairE x y (var 1 x) (var 2 y))) ≡ Has TextT (one ∷ []))
    × (rule (given (TensorT NumT TextT)) (whole (LetPairE x x (var 1 x) (var 2 x))) ≡ Has TextT (one ∷ []))
    × (rule (given (WithT NumT TextT)) (whole (LetPairE x y (var 1 x) (missing 2))) ≡ Untyped (Mismatch (span 1) (WithT NumT TextT) ATensor))
    × (rule (given (TensorT NumT TextT)) (whole (LetPairE x y (var 1 x) (missing 2))) ≡ Untyped (Unbound (span 2)))
    × (rule (given NumT) (whole (LetPairE x y (part 1 (PairE (times 5 4294967295 x) (a_number 6))) (times 2 2 x))) ≡ Untyped (Range (span 0)))
unfolding is_out gcd gcd_in
let_pairs = (refl, refl, refl, refl, refl, refl, refl, refl, refl, refl)
