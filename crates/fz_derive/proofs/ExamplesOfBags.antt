-- The rows of bags at worked examples: each number at its rule, and a little less.
use Rattle.std.proofs.Common.{refl}
use Rattle.std.specs.Prelude.{List, [], ◌∷◌, ◌≡◌, None, Some, codes, pos, negsuc}
use Rattle.fz_frac.specs.Distance.{Fin, Inf, none, one}
use Rattle.fz_frac.specs.Lowest.{gcd, gcd_in, is_out}
use Rattle.fz_ast.specs.Terms.{FilterE, MapE, SizeE, SplitE, SumE, UnionE, VarE}
use Rattle.fz_ast.specs.Types.{ArrowT, BagT, BangT, BoolT, NumT, SumT, TensorT, TextT, UnitT, UnlimitedT, WithT}
use Rattle.fz_ast.specs.Bare.{nowhere}
use Rattle.derivation_lines.specs.Lines.{line_at}
use Rattle.term_meanings.specs.Scopes.{Closed, Under}
use Rattle.fz_derive.proofs.ExampleLines.{below, fault, given, given_two, line, line_two, n, number, quiet, term, var, x, y}

-- size e : num of any bag, at e
sizes :
    (fault (given (BagT TextT)) (SizeE (var x)) (line NumT x (Fin 2 1) ∷ line (BagT TextT) x (Fin 2 1) ∷ []) ≡ None)
    × (fault (given (BagT NumT)) (SizeE (var x)) (line NumT x (below 2) ∷ line (BagT NumT) x (Fin 2 1) ∷ []) ≡ Some 0)
    × (fault (given NumT) (SizeE (var x)) (line NumT x (Fin 2 1) ∷ line NumT x (Fin 2 1) ∷ []) ≡ Some 0)
unfolding line_at is_out gcd gcd_in
sizes = (refl, refl, refl)

-- sum[lo,hi] e : num of bag num, at the greater of |lo| and |hi| times e, which is in range, whatever is said
sums_of_bags :
    (fault (given (BagT NumT)) (SumE (negsuc 4) (pos 3) (var x)) (line NumT x (Fin 10 1) ∷ line (BagT NumT) x (Fin 2 1) ∷ []) ≡ None)
    × (fault (given (BagT NumT)) (SumE (negsuc 4) (pos 3) (var x)) (line NumT x (below 10) ∷ line (BagT NumT) x (Fin 2 1) ∷ []) ≡ Some 0)
    × (fault (given (BagT NumT)) (SumE (negsuc 2) (pos 5) (var x)) (line NumT x (below 10) ∷ line (BagT NumT) x (Fin 2 1) ∷ []) ≡ Some 0)
    × (fault (given (BagT NumT)) (SumE (pos 0) (pos 2147483647) (var x)) (line NumT x (Fin 4294967294 1) ∷ line (BagT NumT) x (Fin 2 1) ∷ []) ≡ None)
    × (fault (given (BagT NumT)) (SumE (pos 0) (pos 4294967296) (var x)) (line NumT x Inf ∷ line (BagT NumT) x Inf ∷ []) ≡ Some 0)
    × (fault (given (BagT NumT)) (SumE (pos 0) (pos 4294967295) (var x)) (line NumT x Inf ∷ line (BagT NumT) x Inf ∷ []) ≡ None)
    × (fault (given (BagT TextT)) (SumE (pos 0) (pos 1) (var x)) (line NumT x (Fin 2 1) ∷ line (BagT TextT) x (Fin 2 1) ∷ []) ≡ Some 0)
unfolding line_at is_out gcd gcd_in
sums_of_bags = (refl, refl, refl, refl, refl, refl, refl)

-- union a b : bag A where both are, at the sum of both
unions :
    (fault (given_two (BagT NumT) (BagT NumT)) (UnionE (var x) (var y)) (line_two (BagT NumT) x (Fin 2 1) y (Fin 3 1) ∷ line (BagT NumT) x (Fin 2 1) ∷ line (BagT NumT) y (Fin 3 1) ∷ []) ≡ None)
    × (fault (given_two (BagT NumT) (BagT NumT)) (UnionE (var x) (var x)) (line (BagT NumT) x (below 4) ∷ line (BagT NumT) x (Fin 2 1) ∷ line (BagT NumT) x (Fin 2 1) ∷ []) ≡ Some 0)
    × (fault (given_two (BagT NumT) (BagT NumT)) (UnionE (var x) (var x)) (line (BagT NumT) x (Fin 4 1) ∷ line (BagT NumT) x (Fin 2 1) ∷ line (BagT NumT) x (Fin 2 1) ∷ []) ≡ None)
    × (fault (given_two (BagT NumT) (BagT TextT)) (UnionE (var x) (var y)) (line_two (BagT NumT) x (Fin 2 1) y (Fin 3 1) ∷ line (BagT NumT) x (Fin 2 1) ∷ line (BagT TextT) y (Fin 3 1) ∷ []) ≡ Some 0)
    × (fault (given NumT) (UnionE (var x) (var x)) (line NumT x (Fin 4 1) ∷ line NumT x (Fin 2 1) ∷ line NumT x (Fin 2 1) ∷ []) ≡ Some 0)
unfolding line_at is_out gcd gcd_in
unions = (refl, refl, refl, refl, refl)

-- map f b : bag B where f : A -> B, B flat, and b : bag A, at inf times f, and b
maps :
    (fault (given_two (UnlimitedT NumT TextT) (BagT NumT)) (MapE (var x) (var y)) (line_two (BagT TextT) x Inf y (Fin 3 1) ∷ line (UnlimitedT NumT TextT) x (Fin 2 1) ∷ line (BagT NumT) y (Fin 3 1) ∷ []) ≡ None)
    × (fault (given_two (UnlimitedT NumT TextT) (BagT NumT)) (MapE (var x) (var y)) (line_two (BagT TextT) x (Fin 2 1) y (Fin 3 1) ∷ line (UnlimitedT NumT TextT) x (Fin 2 1) ∷ line (BagT NumT) y (Fin 3 1) ∷ []) ≡ Some 0)
    × (fault (given_two (UnlimitedT NumT TextT) (BagT NumT)) (MapE (var x) (var y)) (line_two (BagT TextT) x (Fin 4294967295 1) y (Fin 3 1) ∷ line (UnlimitedT NumT TextT) x (Fin 2 1) ∷ line (BagT NumT) y (Fin 3 1) ∷ []) ≡ Some 0)
    × (fault (given_two (UnlimitedT NumT TextT) (BagT NumT)) (MapE (var x) (var y)) (line_two (BagT TextT) x Inf y (below 3) ∷ line (UnlimitedT NumT TextT) x (Fin 2 1) ∷ line (BagT NumT) y (Fin 3 1) ∷ []) ≡ Some 0)
    × (fault (given_two (UnlimitedT NumT TextT) (BagT NumT)) (MapE (var x) (var y)) (line_two (BagT NumT) x Inf y (Fin 3 1) ∷ line (UnlimitedT NumT TextT) x (Fin 2 1) ∷ line (BagT NumT) y (Fin 3 1) ∷ []) ≡ Some 0)
    × (fault (given_two (ArrowT NumT TextT) (BagT NumT)) (MapE (var x) (var y)) (line_two (BagT TextT) x Inf y (Fin 3 1) ∷ line (ArrowT NumT TextT) x (Fin 2 1) ∷ line (BagT NumT) y (Fin 3 1) ∷ []) ≡ Some 0)
    × (fault (given_two (ArrowT (BangT (Fin 9 1) NumT) TextT) (BagT NumT)) (MapE (var x) (var y)) (line_two (BagT TextT) x Inf y (Fin 3 1) ∷ line (ArrowT (BangT (Fin 9 1) NumT) TextT) x (Fin 2 1) ∷ line (BagT NumT) y (Fin 3 1) ∷ []) ≡ Some 0)
    × (fault (given_two (UnlimitedT NumT (BagT NumT)) (BagT NumT)) (MapE (var x) (var y)) (line_two (BagT (BagT NumT)) x Inf y (Fin 3 1) ∷ line (UnlimitedT NumT (BagT NumT)) x (Fin 2 1) ∷ line (BagT NumT) y (Fin 3 1) ∷ []) ≡ Some 0)
    × (fault (given_two (UnlimitedT TextT TextT) (BagT NumT)) (MapE (var x) (var y)) (line_two (BagT TextT) x Inf y (Fin 3 1) ∷ line (UnlimitedT TextT TextT) x (Fin 2 1) ∷ line (BagT NumT) y (Fin 3 1) ∷ []) ≡ Some 0)
unfolding line_at is_out gcd gcd_in
maps = (refl, refl, refl, refl, refl, refl, refl, refl, refl)

-- filter f b : bag A where f : A -> bool and b : bag A, at inf times f, and b
filters :
    (fault (given_two (UnlimitedT NumT BoolT) (BagT NumT)) (FilterE (var x) (var y)) (line_two (BagT NumT) x Inf y (Fin 3 1) ∷ line (UnlimitedT NumT BoolT) x (Fin 2 1) ∷ line (BagT NumT) y (Fin 3 1) ∷ []) ≡ None)
    × (fault (given_two (UnlimitedT NumT BoolT) (BagT NumT)) (FilterE (var x) (var y)) (line_two (BagT NumT) x (Fin 2 1) y (Fin 3 1) ∷ line (UnlimitedT NumT BoolT) x (Fin 2 1) ∷ line (BagT NumT) y (Fin 3 1) ∷ []) ≡ Some 0)
    × (fault (given_two (UnlimitedT NumT BoolT) (BagT NumT)) (FilterE (var x) (var y)) (line_two (BagT NumT) x Inf y (below 3) ∷ line (UnlimitedT NumT BoolT) x (Fin 2 1) ∷ line (BagT NumT) y (Fin 3 1) ∷ []) ≡ Some 0)
    × (fault (given_two (UnlimitedT NumT TextT) (BagT NumT)) (FilterE (var x) (var y)) (line_two (BagT NumT) x Inf y (Fin 3 1) ∷ line (UnlimitedT NumT TextT) x (Fin 2 1) ∷ line (BagT NumT) y (Fin 3 1) ∷ []) ≡ Some 0)
    × (fault (given_two (UnlimitedT TextT BoolT) (BagT NumT)) (FilterE (var x) (var y)) (line_two (BagT NumT) x Inf y (Fin 3 1) ∷ line (UnlimitedT TextT BoolT) x (Fin 2 1) ∷ line (BagT NumT) y (Fin 3 1) ∷ []) ≡ Some 0)
unfolding line_at is_out gcd gcd_in
filters = (refl, refl, refl, refl, refl)

-- split f b : bag A * bag A where f : A -> bool and b : bag A, at inf times f, and b
splits :
    (fault (given_two (UnlimitedT NumT BoolT) (BagT NumT)) (SplitE (var x) (var y)) (line_two (TensorT (BagT NumT) (BagT NumT)) x Inf y (Fin 3 1) ∷ line (UnlimitedT NumT BoolT) x (Fin 2 1) ∷ line (BagT NumT) y (Fin 3 1) ∷ []) ≡ None)
    × (fault (given_two (UnlimitedT NumT BoolT) (BagT NumT)) (SplitE (var x) (var y)) (line_two (TensorT (BagT NumT) (BagT NumT)) x (Fin 2 1) y (Fin 3 1) ∷ line (UnlimitedT NumT BoolT) x (Fin 2 1) ∷ line (BagT NumT) y (Fin 3 1) ∷ []) ≡ Some 0)
    × (fault (given_two (UnlimitedT NumT BoolT) (BagT NumT)) (SplitE (var x) (var y)) (line_two (TensorT (BagT NumT) (BagT NumT)) x Inf y (below 3) ∷ line (UnlimitedT NumT BoolT) x (Fin 2 1) ∷ line (BagT NumT) y (Fin 3 1) ∷ []) ≡ Some 0)
    × (fault (given_two (UnlimitedT NumT TextT) (BagT NumT)) (SplitE (var x) (var y)) (line_two (TensorT (BagT NumT) (BagT NumT)) x Inf y (Fin 3 1) ∷ line (UnlimitedT NumT TextT) x (Fin 2 1) ∷ line (BagT NumT) y (Fin 3 1) ∷ []) ≡ Some 0)
    × (fault (given_two (UnlimitedT TextT BoolT) (BagT NumT)) (SplitE (var x) (var y)) (line_two (TensorT (BagT NumT) (BagT NumT)) x Inf y (Fin 3 1) ∷ line (UnlimitedT TextT BoolT) x (Fin 2 1) ∷ line (BagT NumT) y (Fin 3 1) ∷ []) ≡ Some 0)
unfolding line_at is_out gcd gcd_in
splits = (refl, refl, refl, refl, refl)
