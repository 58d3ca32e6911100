-- The rows of numbers at worked examples: each number at its rule, and a little less.
use Rattle.std.proofs.Common.{refl}
use Rattle.std.specs.Prelude.{List, [], ◌∷◌, ◌≡◌, None, Some, codes, pos, negsuc}
use Rattle.fz_frac.specs.Distance.{Fin, Inf, none, one}
use Rattle.fz_frac.specs.Lowest.{gcd, gcd_in, is_out}
use Rattle.fz_ast.specs.Terms.{ClipE, EqE, GreatestE, LeE, LeastE, LetE, MinusE, PlusE, TimesE, VarE}
use Rattle.fz_ast.specs.Types.{ArrowT, BagT, BangT, BoolT, NumT, SumT, TensorT, TextT, UnitT, UnlimitedT, WithT}
use Rattle.fz_ast.specs.Bare.{nowhere}
use Rattle.derivation_lines.specs.Lines.{line_at}
use Rattle.term_meanings.specs.Scopes.{Closed, Under}
use Rattle.fz_derive.proofs.ExampleLines.{below, fault, given, given_two, line, line_two, n, number, quiet, term, var, x, y}

-- a + b : num of two numbers, at the sum of both
sums_of_numbers :
    (fault (given NumT) (PlusE (var x) (var n)) (line_two NumT n (Fin 1 1) x (Fin 5 1) ∷ line NumT x (Fin 2 1) ∷ line_two NumT n (Fin 1 1) x (Fin 3 1) ∷ []) ≡ None)
    × (fault (given NumT) (PlusE (var x) (var n)) (line_two NumT n (Fin 1 1) x (below 5) ∷ line NumT x (Fin 2 1) ∷ line_two NumT n (Fin 1 1) x (Fin 3 1) ∷ []) ≡ Some 0)
    × (fault (given NumT) (PlusE (var x) (var n)) (line_two TextT n (Fin 1 1) x (Fin 5 1) ∷ line NumT x (Fin 2 1) ∷ line_two NumT n (Fin 1 1) x (Fin 3 1) ∷ []) ≡ Some 0)
    × (fault (given TextT) (PlusE (var x) (var n)) (line_two NumT n (Fin 1 1) x (Fin 5 1) ∷ line TextT x (Fin 2 1) ∷ line_two NumT n (Fin 1 1) x (Fin 3 1) ∷ []) ≡ Some 0)
    × (fault (given TextT) (PlusE (var n) (var x)) (line_two NumT n (Fin 3 1) x (Fin 2 1) ∷ line NumT n (Fin 3 1) ∷ line TextT x (Fin 2 1) ∷ []) ≡ Some 0)
unfolding line_at is_out gcd gcd_in
sums_of_numbers = (refl, refl, refl, refl, refl)

-- a - b : num of two numbers, at the sum of both
differences :
    (fault (given NumT) (MinusE (var x) (var n)) (line_two NumT n (Fin 1 1) x (Fin 5 1) ∷ line NumT x (Fin 2 1) ∷ line_two NumT n (Fin 1 1) x (Fin 3 1) ∷ []) ≡ None)
    × (fault (given NumT) (MinusE (var x) (var n)) (line_two NumT n (Fin 1 1) x (below 5) ∷ line NumT x (Fin 2 1) ∷ line_two NumT n (Fin 1 1) x (Fin 3 1) ∷ []) ≡ Some 0)
    × (fault (given NumT) (MinusE (var x) (var n)) (line_two TextT n (Fin 1 1) x (Fin 5 1) ∷ line NumT x (Fin 2 1) ∷ line_two NumT n (Fin 1 1) x (Fin 3 1) ∷ []) ≡ Some 0)
    × (fault (given TextT) (MinusE (var x) (var n)) (line_two NumT n (Fin 1 1) x (Fin 5 1) ∷ line TextT x (Fin 2 1) ∷ line_two NumT n (Fin 1 1) x (Fin 3 1) ∷ []) ≡ Some 0)
    × (fault (given TextT) (MinusE (var n) (var x)) (line_two NumT n (Fin 3 1) x (Fin 2 1) ∷ line NumT n (Fin 3 1) ∷ line TextT x (Fin 2 1) ∷ []) ≡ Some 0)
unfolding line_at is_out gcd gcd_in
differences = (refl, refl, refl, refl, refl)

-- k * e : num, at |k| times e; |k| is in range, whatever is said
products_of_numbers :
    (fault (given NumT) (TimesE (negsuc 2) (var x)) (line NumT x (Fin 6 1) ∷ line NumT x (Fin 2 1) ∷ []) ≡ None)
    × (fault (given NumT) (TimesE (negsuc 2) (var x)) (line NumT x (below 6) ∷ line NumT x (Fin 2 1) ∷ []) ≡ Some 0)
    × (fault (given NumT) (TimesE (pos 0) (var x)) (quiet NumT ∷ line NumT x (Fin 2 1) ∷ []) ≡ None)
    × (fault (given NumT) (TimesE (pos 4294967295) number) (quiet NumT ∷ quiet NumT ∷ []) ≡ None)
    × (fault (given NumT) (TimesE (pos 4294967296) number) (quiet NumT ∷ quiet NumT ∷ []) ≡ Some 0)
    × (fault (given NumT) (TimesE (negsuc 4294967295) number) (quiet NumT ∷ quiet NumT ∷ []) ≡ Some 0)
    × (fault (given TextT) (TimesE (pos 2) (var x)) (line NumT x (Fin 6 1) ∷ line TextT x (Fin 2 1) ∷ []) ≡ Some 0)
unfolding line_at is_out gcd gcd_in
products_of_numbers = (refl, refl, refl, refl, refl, refl, refl)

-- a product or a sum out of range fails whatever is said, a product also where the sum would be inf
out_of_range :
    (fault (given NumT) (TimesE (pos 2) (var x)) (line NumT x (Fin 4294967294 1) ∷ line NumT x (Fin 2147483647 1) ∷ []) ≡ None)
    × (fault (given NumT) (TimesE (pos 2) (var x)) (line NumT x Inf ∷ line NumT x (Fin 2147483648 1) ∷ []) ≡ Some 0)
    × (fault (given NumT) (TimesE (pos 2) (var x)) (line NumT x Inf ∷ line NumT x Inf ∷ []) ≡ None)
    × (fault (given NumT) (PlusE (var x) (var x)) (line NumT x Inf ∷ line NumT x (Fin 4294967294 1) ∷ line NumT x (Fin 1 1) ∷ []) ≡ None)
    × (fault (given NumT) (PlusE (var x) (var x)) (line NumT x Inf ∷ line NumT x (Fin 4294967295 1) ∷ line NumT x (Fin 1 1) ∷ []) ≡ Some 0)
    × (fault (given NumT) (LetE y (var x) (var y)) (line_two NumT n Inf x Inf ∷ line NumT x (Fin 65536 1) ∷ line_two NumT n Inf y (Fin 65535 1) ∷ []) ≡ None)
    × (fault (given NumT) (LetE y (var x) (var y)) (line_two NumT n Inf x Inf ∷ line NumT x (Fin 65536 1) ∷ line_two NumT x Inf y (Fin 65536 1) ∷ []) ≡ Some 0)
    × (fault (given NumT) (LetE y (var x) (var y)) (line NumT x Inf ∷ line NumT x (Fin 65536 1) ∷ line NumT y (Fin 65536 1) ∷ []) ≡ Some 0)
    × (fault (given NumT) (LetE y (var x) (var y)) (line NumT x (Fin 4294967295 1) ∷ line NumT x (Fin 65537 1) ∷ line NumT y (Fin 65535 1) ∷ []) ≡ None)
unfolding line_at is_out gcd gcd_in
out_of_range = (refl, refl, refl, refl, refl, refl, refl, refl, refl)

-- a <= b : bool of two numbers, at inf times both
orders :
    (fault (given NumT) (LeE (var x) (var n)) (line_two BoolT n Inf x Inf ∷ line NumT x (Fin 2 1) ∷ line_two NumT n (Fin 1 1) x (Fin 3 1) ∷ []) ≡ None)
    × (fault (given NumT) (LeE (var x) (var n)) (line_two BoolT n Inf x (Fin 4294967295 1) ∷ line NumT x (Fin 2 1) ∷ line_two NumT n (Fin 1 1) x (Fin 3 1) ∷ []) ≡ Some 0)
    × (fault (given NumT) (LeE number number) (quiet BoolT ∷ quiet NumT ∷ quiet NumT ∷ []) ≡ None)
    × (fault (given NumT) (LeE (var x) (var n)) (line_two NumT n Inf x Inf ∷ line NumT x (Fin 2 1) ∷ line_two NumT n (Fin 1 1) x (Fin 3 1) ∷ []) ≡ Some 0)
    × (fault (given TextT) (LeE (var x) (var x)) (line BoolT x Inf ∷ line TextT x (Fin 2 1) ∷ line TextT x (Fin 2 1) ∷ []) ≡ Some 0)
unfolding line_at is_out gcd gcd_in
orders = (refl, refl, refl, refl, refl)

-- a == b : bool of two numbers, at inf times both, or of two texts, at the sum of both
equations :
    (fault (given NumT) (EqE (var x) (var n)) (line_two BoolT n Inf x Inf ∷ line NumT x (Fin 2 1) ∷ line_two NumT n (Fin 1 1) x (Fin 3 1) ∷ []) ≡ None)
    × (fault (given NumT) (EqE (var x) (var n)) (line_two BoolT n (Fin 4294967295 1) x Inf ∷ line NumT x (Fin 2 1) ∷ line_two NumT n (Fin 1 1) x (Fin 3 1) ∷ []) ≡ Some 0)
    × (fault (given TextT) (EqE (var x) (var x)) (line BoolT x (Fin 4 1) ∷ line TextT x (Fin 2 1) ∷ line TextT x (Fin 2 1) ∷ []) ≡ None)
    × (fault (given TextT) (EqE (var x) (var x)) (line BoolT x (below 4) ∷ line TextT x (Fin 2 1) ∷ line TextT x (Fin 2 1) ∷ []) ≡ Some 0)
    × (fault (given TextT) (EqE (var x) (var n)) (line_two BoolT n Inf x Inf ∷ line TextT x (Fin 2 1) ∷ line NumT n (Fin 1 1) ∷ []) ≡ Some 0)
    × (fault (given TextT) (EqE (var n) (var x)) (line_two BoolT n Inf x Inf ∷ line NumT n (Fin 1 1) ∷ line TextT x (Fin 2 1) ∷ []) ≡ Some 0)
    × (fault (given UnitT) (EqE (var x) (var x)) (line BoolT x Inf ∷ line UnitT x (Fin 2 1) ∷ line UnitT x (Fin 2 1) ∷ []) ≡ Some 0)
unfolding line_at is_out gcd gcd_in
equations = (refl, refl, refl, refl, refl, refl, refl)

-- clip[lo,hi] e : num, at e
clips :
    (fault (given NumT) (ClipE (pos 0) (pos 9) (var x)) (line NumT x (Fin 2 1) ∷ line NumT x (Fin 2 1) ∷ []) ≡ None)
    × (fault (given NumT) (ClipE (pos 0) (pos 9) (var x)) (line NumT x (below 2) ∷ line NumT x (Fin 2 1) ∷ []) ≡ Some 0)
    × (fault (given TextT) (ClipE (pos 0) (pos 9) (var x)) (line NumT x (Fin 2 1) ∷ line TextT x (Fin 2 1) ∷ []) ≡ Some 0)
unfolding line_at is_out gcd gcd_in
clips = (refl, refl, refl)

-- least e : num of num & num, at e
least_of_two :
    (fault (given (WithT NumT NumT)) (LeastE (var x)) (line NumT x (Fin 2 1) ∷ line (WithT NumT NumT) x (Fin 2 1) ∷ []) ≡ None)
    × (fault (given (WithT NumT NumT)) (LeastE (var x)) (line NumT x (below 2) ∷ line (WithT NumT NumT) x (Fin 2 1) ∷ []) ≡ Some 0)
    × (fault (given (TensorT NumT NumT)) (LeastE (var x)) (line NumT x (Fin 2 1) ∷ line (TensorT NumT NumT) x (Fin 2 1) ∷ []) ≡ Some 0)
unfolding line_at is_out gcd gcd_in
least_of_two = (refl, refl, refl)

-- greatest e : num of num & num, at e
greatest_of_two :
    (fault (given (WithT NumT NumT)) (GreatestE (var x)) (line NumT x (Fin 2 1) ∷ line (WithT NumT NumT) x (Fin 2 1) ∷ []) ≡ None)
    × (fault (given (WithT NumT NumT)) (GreatestE (var x)) (line NumT x (below 2) ∷ line (WithT NumT NumT) x (Fin 2 1) ∷ []) ≡ Some 0)
    × (fault (given (TensorT NumT NumT)) (GreatestE (var x)) (line NumT x (Fin 2 1) ∷ line (TensorT NumT NumT) x (Fin 2 1) ∷ []) ≡ Some 0)
unfolding line_at is_out gcd gcd_in
greatest_of_two = (refl, refl, refl)
