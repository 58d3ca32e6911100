-- The rows of bags at worked examples: both sides of each condition, and each fault's data.
use Rattle.std.proofs.Common.{refl}
use Rattle.std.specs.Prelude.{[], negsuc, pos, ◌∷◌, ◌≡◌}
use Rattle.fz_ast.specs.Terms.{FilterE, MapE, SizeE, SplitE, SumE, UnionE}
use Rattle.fz_ast.specs.Types.{ArrowT, BagT, BangT, BoolT, NumT, SumT, TensorT, TextT, Ty, UnitT, UnlimitedT}
use Rattle.fz_frac.specs.Distance.{Fin, Inf, none, one}
use Rattle.fz_frac.specs.Lowest.{gcd, gcd_in, is_out}
use Rattle.linear_types.proofs.ExampleTerms.{given, given_and_n, missing, n, span, var, whole, whole_number, x, y}
use Rattle.linear_types.specs.Inferred.{ABag, AnUnlimitedArrow, Exactly, Has, Mismatch, NotFlat, Range, Untyped, Unbound}
use Rattle.linear_types.specs.Rule.{rule}
use Rattle.linear_types.specs.Typing.{Closed, Context, Under}

-- x a function of this type, and y a bag of these
abbrev function_and_bag : Ty → Ty → Context
function_and_bag F A = Under x F (Under y (BagT A) Closed)

sizes :
    (rule (given (BagT TextT)) (whole (SizeE (var 1 x))) ≡ Has NumT (one ∷ []))
    × (rule (given TextT) (whole (SizeE (var 1 x))) ≡ Untyped (Mismatch (span 1) TextT ABag))
    × (rule (given TextT) (whole (SizeE (missing 1))) ≡ Untyped (Unbound (span 1)))
sizes = (refl, refl, refl)

-- sum[lo,hi] e: the greater size of both bounds, which is in range by itself
totals :
    (rule (given (BagT NumT)) (whole (SumE (negsuc 2) (pos 2) (var 1 x))) ≡ Has NumT (whole_number 3 ∷ []))
    × (rule (given (BagT NumT)) (whole (SumE (negsuc 1) (pos 5) (var 1 x))) ≡ Has NumT (whole_number 5 ∷ []))
    × (rule (given (BagT NumT)) (whole (SumE (pos 0) (pos 0) (var 1 x))) ≡ Has NumT (none ∷ []))
    × (rule (given (BagT NumT)) (whole (SumE (pos 4294967295) (pos 0) (var 1 x))) ≡ Has NumT (whole_number 4294967295 ∷ []))
    × (rule (given (BagT NumT)) (whole (SumE (negsuc 4294967295) (pos 0) (var 1 x))) ≡ Untyped (Range (span 0)))
    × (rule (given (BagT NumT)) (whole (SumE (pos 0) (pos 4294967296) (var 1 x))) ≡ Untyped (Range (span 0)))
    × (rule (given (BagT TextT)) (whole (SumE (pos 0) (pos 4294967296) (var 1 x))) ≡ Untyped (Mismatch (span 1) (BagT TextT) (Exactly (BagT NumT))))
    × (rule (given NumT) (whole (SumE (pos 0) (pos 1) (var 1 x))) ≡ Untyped (Mismatch (span 1) NumT (Exactly (BagT NumT))))
unfolding is_out gcd gcd_in
totals = (refl, refl, refl, refl, refl, refl, refl, refl)

unions :
    (rule (given (BagT TextT)) (whole (UnionE (var 1 x) (var 2 x))) ≡ Has (BagT TextT) (whole_number 2 ∷ []))
    × (rule (given_and_n (BagT TextT)) (whole (UnionE (var 1 x) (var 2 n))) ≡ Untyped (Mismatch (span 2) NumT (Exactly (BagT TextT))))
    × (rule (given_and_n (BagT TextT)) (whole (UnionE (var 1 n) (var 2 x))) ≡ Untyped (Mismatch (span 1) NumT ABag))
    × (rule (Under x (BagT TextT) (Under y (BagT NumT) Closed)) (whole (UnionE (var 1 x) (var 2 y))) ≡ Untyped (Mismatch (span 2) (BagT NumT) (Exactly (BagT TextT))))
    × (rule (given NumT) (whole (UnionE (var 1 x) (missing 2))) ≡ Untyped (Unbound (span 2)))
unfolding is_out gcd gcd_in
unions = (refl, refl, refl, refl, refl)

-- map f b: what f gives is flat
images :
    (rule (function_and_bag (UnlimitedT TextT NumT) TextT) (whole (MapE (var 1 x) (var 2 y))) ≡ Has (BagT NumT) (Inf ∷ one ∷ []))
    × (rule (function_and_bag (UnlimitedT TextT (BagT NumT)) NumT) (whole (MapE (var 1 x) (var 2 y))) ≡ Untyped (NotFlat (span 1)))
    × (rule (function_and_bag (UnlimitedT TextT (ArrowT NumT NumT)) TextT) (whole (MapE (var 1 x) (var 2 y))) ≡ Untyped (NotFlat (span 1)))
    × (rule (function_and_bag (UnlimitedT TextT NumT) NumT) (whole (MapE (var 1 x) (var 2 y))) ≡ Untyped (Mismatch (span 2) (BagT NumT) (Exactly (BagT TextT))))
    × (rule (function_and_bag (ArrowT TextT NumT) TextT) (whole (MapE (var 1 x) (var 2 y))) ≡ Untyped (Mismatch (span 1) (ArrowT TextT NumT) AnUnlimitedArrow))
    × (rule (function_and_bag (ArrowT (BangT (Fin 2 1) TextT) NumT) TextT) (whole (MapE (var 1 x) (var 2 y))) ≡ Untyped (Mismatch (span 1) (ArrowT (BangT (Fin 2 1) TextT) NumT) AnUnlimitedArrow))
    × (rule (function_and_bag NumT TextT) (whole (MapE (var 1 x) (missing 2))) ≡ Untyped (Unbound (span 2)))
unfolding is_out gcd gcd_in
images = (refl, refl, refl, refl, refl, refl, refl)

-- filter f b: f is a test
filters :
    (rule (function_and_bag (UnlimitedT TextT BoolT) TextT) (whole (FilterE (var 1 x) (var 2 y))) ≡ Has (BagT TextT) (Inf ∷ one ∷ []))
    × (rule (function_and_bag (UnlimitedT TextT NumT) TextT) (whole (FilterE (var 1 x) (var 2 y))) ≡ Untyped (Mismatch (span 1) (UnlimitedT TextT NumT) (Exactly (UnlimitedT TextT BoolT))))
    × (rule (function_and_bag (UnlimitedT TextT (SumT UnitT NumT)) NumT) (whole (FilterE (var 1 x) (var 2 y))) ≡ Untyped (Mismatch (span 1) (UnlimitedT TextT (SumT UnitT NumT)) (Exactly (UnlimitedT TextT BoolT))))
    × (rule (function_and_bag (ArrowT TextT BoolT) TextT) (whole (FilterE (var 1 x) (var 2 y))) ≡ Untyped (Mismatch (span 1) (ArrowT TextT BoolT) AnUnlimitedArrow))
    × (rule (function_and_bag (UnlimitedT TextT BoolT) NumT) (whole (FilterE (var 1 x) (var 2 y))) ≡ Untyped (Mismatch (span 2) (BagT NumT) (Exactly (BagT TextT))))
unfolding is_out gcd gcd_in
filters = (refl, refl, refl, refl, refl)

-- split f b: both halves are bags, and change together
splits :
    (rule (function_and_bag (UnlimitedT TextT BoolT) TextT) (whole (SplitE (var 1 x) (var 2 y))) ≡ Has (TensorT (BagT TextT) (BagT TextT)) (Inf ∷ one ∷ []))
    × (rule (function_and_bag (UnlimitedT TextT NumT) NumT) (whole (SplitE (var 1 x) (var 2 y))) ≡ Untyped (Mismatch (span 1) (UnlimitedT TextT NumT) (Exactly (UnlimitedT TextT BoolT))))
    × (rule (function_and_bag NumT TextT) (whole (SplitE (var 1 x) (var 2 y))) ≡ Untyped (Mismatch (span 1) NumT AnUnlimitedArrow))
    × (rule (function_and_bag (UnlimitedT TextT BoolT) NumT) (whole (SplitE (var 1 x) (var 2 y))) ≡ Untyped (Mismatch (span 2) (BagT NumT) (Exactly (BagT TextT))))
unfolding is_out gcd gcd_in
splits = (refl, refl, refl, refl)
