-- The rows of sums at worked examples: both sides of each condition, and each fault's data.
use Rattle.std.proofs.Common.{refl}
use Rattle.std.specs.Prelude.{[], ℕ, ◌∷◌, ◌≡◌}
use Rattle.fz_ast.specs.Terms.{CaseE, FunE, IfE, InlE, InrE, PlusE, Term}
use Rattle.fz_ast.specs.Types.{ArrowT, BagT, BoolT, NumT, SumT, TensorT, TextT, UnitT}
use Rattle.fz_frac.specs.Distance.{one}
use Rattle.fz_frac.specs.Lowest.{gcd, gcd_in, is_out}
use Rattle.linear_types.proofs.ExampleTerms.{a_number, a_text, given, given_and_n, missing, n, part, span, times, var, whole, whole_number, x, y}
use Rattle.linear_types.specs.Inferred.{ASum, Exactly, Has, Mismatch, NotFlat, NotGround, Range, Untyped, Unbound}
use Rattle.linear_types.specs.Rule.{rule}

-- fun (x : num) => x
abbrev a_function : ℕ → Term
a_function k = part k (FunE x (span 4) NumT (var 5 x))

-- inl[T] e: the written type is the second side
left_sides :
    (rule (given NumT) (whole (InlE (span 4) TextT (times 1 2 x))) ≡ Has (SumT NumT TextT) (whole_number 2 ∷ []))
    × (rule (given NumT) (whole (InlE (span 4) (BagT (BagT NumT)) (missing 1))) ≡ Untyped (Unbound (span 1)))
    × (rule (given NumT) (whole (InlE (span 4) (BagT (BagT NumT)) (a_function 1))) ≡ Untyped (NotFlat (span 4)))
    × (rule (given NumT) (whole (InlE (span 4) (SumT NumT (ArrowT NumT NumT)) (var 1 x))) ≡ Untyped (NotGround (span 4)))
    × (rule (given NumT) (whole (InlE (span 4) (ArrowT NumT NumT) (a_function 1))) ≡ Untyped (NotGround (span 4)))
    × (rule (given NumT) (whole (InlE (span 4) (BagT NumT) (a_function 1))) ≡ Untyped (NotGround (span 1)))
    × (rule (given (BagT NumT)) (whole (InlE (span 4) (BagT NumT) (var 1 x))) ≡ Has (SumT (BagT NumT) (BagT NumT)) (one ∷ []))
unfolding is_out gcd gcd_in
left_sides = (refl, refl, refl, refl, refl, refl, refl)

-- inr[T] e: the written type is the first side
right_sides :
    (rule (given NumT) (whole (InrE (span 4) TextT (times 1 2 x))) ≡ Has (SumT TextT NumT) (whole_number 2 ∷ []))
    × (rule (given NumT) (whole (InrE (span 4) (BagT (BagT NumT)) (a_function 1))) ≡ Untyped (NotFlat (span 4)))
    × (rule (given NumT) (whole (InrE (span 4) (ArrowT NumT NumT) (var 1 x))) ≡ Untyped (NotGround (span 4)))
    × (rule (given NumT) (whole (InrE (span 4) TextT (a_function 1))) ≡ Untyped (NotGround (span 1)))
unfolding is_out gcd gcd_in
right_sides = (refl, refl, refl, refl)

-- case e of inl x => a | inr y => b: the greater of both names' times e's, and 1 where both are unused
cases :
    (rule (given_and_n (SumT NumT NumT)) (whole (CaseE (var 1 x) x (part 2 (PlusE (times 5 2 x) (times 6 3 n))) y (part 3 (PlusE (times 7 4 y) (var 8 n))))) ≡ Has NumT (whole_number 4 ∷ whole_number 3 ∷ []))
    × (rule (given_and_n (SumT NumT NumT)) (whole (CaseE (var 1 x) x (part 2 (PlusE (times 5 4 x) (var 6 n))) y (part 3 (PlusE (times 7 2 y) (times 8 3 n))))) ≡ Has NumT (whole_number 4 ∷ whole_number 3 ∷ []))
    × (rule (given (SumT NumT TextT)) (whole (CaseE (var 1 x) x (var 2 x) y (a_number 3))) ≡ Has NumT (one ∷ []))
    × (rule (given (SumT NumT TextT)) (whole (CaseE (var 1 x) x (a_text 2) y (var 3 y))) ≡ Has TextT (one ∷ []))
    × (rule (given (SumT NumT TextT)) (whole (CaseE (var 1 x) x (a_number 2) y (a_number 3))) ≡ Has NumT (one ∷ []))
unfolding is_out gcd gcd_in
cases = (refl, refl, refl, refl, refl)

-- the condition on e comes before the branches, and what they are together after both
case_faults :
    (rule (given (TensorT NumT NumT)) (whole (CaseE (var 1 x) x (missing 2) y (missing 3))) ≡ Untyped (Mismatch (span 1) (TensorT NumT NumT) ASum))
    × (rule (given (SumT NumT TextT)) (whole (CaseE (var 1 x) x (missing 2) y (missing 3))) ≡ Untyped (Unbound (span 2)))
    × (rule (given (SumT NumT TextT)) (whole (CaseE (var 1 x) x (var 2 x) y (missing 3))) ≡ Untyped (Unbound (span 3)))
    × (rule (given (SumT NumT TextT)) (whole (CaseE (var 1 x) x (var 2 x) y (var 3 y))) ≡ Untyped (Mismatch (span 3) TextT (Exactly NumT)))
    × (rule (given (SumT NumT TextT)) (whole (CaseE (var 1 x) x (a_function 2) y (a_function 3))) ≡ Untyped (NotGround (span 0)))
    × (rule (given (SumT NumT TextT)) (whole (CaseE (var 1 x) x (a_function 2) y (var 3 y))) ≡ Untyped (Mismatch (span 3) TextT (Exactly (ArrowT NumT NumT))))
    × (rule (given NumT) (whole (CaseE (part 1 (InlE (span 4) NumT (times 5 4294967295 x))) x (times 2 2 x) y (a_number 3))) ≡ Untyped (Range (span 0)))
    × (rule (given NumT) (whole (CaseE (part 1 (InlE (span 4) NumT (times 5 4294967295 x))) x (var 2 x) y (a_number 3))) ≡ Has NumT (whole_number 4294967295 ∷ []))
unfolding is_out gcd gcd_in
case_faults = (refl, refl, refl, refl, refl, refl, refl, refl)

-- if e then a else b: the greater of both branches', and the condition's
ifs :
    (rule (given_and_n BoolT) (whole (IfE (var 1 x) (times 2 2 n) (times 3 3 n))) ≡ Has NumT (one ∷ whole_number 3 ∷ []))
    × (rule (given_and_n BoolT) (whole (IfE (var 1 x) (times 2 3 n) (times 3 2 n))) ≡ Has NumT (one ∷ whole_number 3 ∷ []))
    × (rule (given BoolT) (whole (IfE (var 1 x) (var 2 x) (var 3 x))) ≡ Has BoolT (whole_number 2 ∷ []))
    × (rule (given (SumT UnitT NumT)) (whole (IfE (var 1 x) (a_number 2) (a_text 3))) ≡ Untyped (Mismatch (span 1) (SumT UnitT NumT) (Exactly BoolT)))
    × (rule (given BoolT) (whole (IfE (var 1 x) (a_number 2) (a_text 3))) ≡ Untyped (Mismatch (span 3) TextT (Exactly NumT)))
    × (rule (given BoolT) (whole (IfE (var 1 x) (a_function 2) (a_function 3))) ≡ Untyped (NotGround (span 0)))
    × (rule (given NumT) (whole (IfE (var 1 x) (missing 2) (missing 3))) ≡ Untyped (Unbound (span 2)))
    × (rule (given NumT) (whole (IfE (var 1 x) (a_number 2) (missing 3))) ≡ Untyped (Unbound (span 3)))
unfolding is_out gcd gcd_in
ifs = (refl, refl, refl, refl, refl, refl, refl, refl)
