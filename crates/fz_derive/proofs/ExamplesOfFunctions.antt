-- The rows of functions, bangs and lets at worked examples: each number at its rule, and a little less.
use Rattle.std.proofs.Common.{refl}
use Rattle.std.specs.Prelude.{List, [], ◌∷◌, ◌≡◌, None, Some, codes, pos, negsuc}
use Rattle.fz_frac.specs.Distance.{Fin, Inf, none, one}
use Rattle.fz_frac.specs.Lowest.{gcd, gcd_in, is_out}
use Rattle.fz_ast.specs.Terms.{AppE, BangE, FnE, FunE, LetBangE, LetE, VarE}
use Rattle.fz_ast.specs.Types.{ArrowT, BagT, BangT, BoolT, NumT, SumT, TensorT, TextT, UnitT, UnlimitedT, WithT}
use Rattle.fz_ast.specs.Bare.{nowhere}
use Rattle.derivation_lines.specs.Lines.{line_at}
use Rattle.term_meanings.specs.Scopes.{Closed, Under}
use Rattle.fz_derive.proofs.ExampleLines.{below, fault, given, given_two, line, line_two, n, number, quiet, term, var, x, y}

-- fun (x : T) => e : T -o A, at e without x, which is at most 1 in e
functions :
    (fault (given NumT) (FunE x nowhere TextT (var x)) (quiet (ArrowT TextT TextT) ∷ line TextT x one ∷ []) ≡ None)
    × (fault (given NumT) (FunE x nowhere TextT (var x)) (quiet (ArrowT TextT TextT) ∷ line TextT x (Fin 1001 1000) ∷ []) ≡ Some 0)
    × (fault (given NumT) (FunE x nowhere TextT (var x)) (quiet (UnlimitedT TextT TextT) ∷ line TextT x one ∷ []) ≡ Some 0)
    × (fault (given NumT) (FunE x nowhere TextT (var x)) (quiet (ArrowT NumT TextT) ∷ line TextT x one ∷ []) ≡ Some 0)
    × (fault (given NumT) (FunE x nowhere TextT (var n)) (line (ArrowT TextT NumT) n (Fin 3 1) ∷ line_two NumT n (Fin 3 1) x one ∷ []) ≡ None)
    × (fault (given NumT) (FunE x nowhere TextT (var n)) (line (ArrowT TextT NumT) n (below 3) ∷ line_two NumT n (Fin 3 1) x one ∷ []) ≡ Some 0)
    × (fault (given NumT) (FunE x nowhere (BagT (BagT NumT)) (var n)) (line (ArrowT (BagT (BagT NumT)) NumT) n (Fin 1 1) ∷ line NumT n (Fin 1 1) ∷ []) ≡ Some 0)
unfolding line_at is_out gcd gcd_in
functions = (refl, refl, refl, refl, refl, refl, refl)

-- fn (x : T) => e : T -> A, at e without x, which is at any number in e
unlimited_functions :
    (fault (given NumT) (FnE x nowhere TextT (var x)) (quiet (UnlimitedT TextT TextT) ∷ line TextT x Inf ∷ []) ≡ None)
    × (fault (given NumT) (FnE x nowhere TextT (var x)) (quiet (ArrowT TextT TextT) ∷ line TextT x one ∷ []) ≡ Some 0)
    × (fault (given NumT) (FnE x nowhere TextT (var n)) (line (UnlimitedT TextT NumT) n (Fin 3 1) ∷ line NumT n (Fin 3 1) ∷ []) ≡ None)
    × (fault (given NumT) (FnE x nowhere TextT (var n)) (line (UnlimitedT TextT NumT) n (below 3) ∷ line NumT n (Fin 3 1) ∷ []) ≡ Some 0)
    × (fault (given NumT) (FnE x nowhere (SumT NumT (ArrowT NumT NumT)) (var n)) (line (UnlimitedT (SumT NumT (ArrowT NumT NumT)) NumT) n (Fin 1 1) ∷ line NumT n (Fin 1 1) ∷ []) ≡ Some 0)
unfolding line_at is_out gcd gcd_in
unlimited_functions = (refl, refl, refl, refl, refl)

-- f a : B where f : A -o B and a : A, at the sum of both
applications :
    (fault (given (ArrowT NumT TextT)) (AppE (var x) (var n)) (line_two TextT n (Fin 3 1) x (Fin 3 1) ∷ line (ArrowT NumT TextT) x (Fin 2 1) ∷ line_two NumT n (Fin 3 1) x (Fin 1 1) ∷ []) ≡ None)
    × (fault (given (ArrowT NumT TextT)) (AppE (var x) (var n)) (line_two TextT n (Fin 3 1) x (below 3) ∷ line (ArrowT NumT TextT) x (Fin 2 1) ∷ line_two NumT n (Fin 3 1) x (Fin 1 1) ∷ []) ≡ Some 0)
    × (fault (given (ArrowT NumT TextT)) (AppE (var x) (var n)) (line_two NumT n (Fin 3 1) x (Fin 3 1) ∷ line (ArrowT NumT TextT) x (Fin 2 1) ∷ line_two NumT n (Fin 3 1) x (Fin 1 1) ∷ []) ≡ Some 0)
    × (fault (given (ArrowT TextT TextT)) (AppE (var x) (var n)) (line_two TextT n (Fin 3 1) x (Fin 3 1) ∷ line (ArrowT TextT TextT) x (Fin 2 1) ∷ line_two NumT n (Fin 3 1) x (Fin 1 1) ∷ []) ≡ Some 0)
    × (fault (given NumT) (AppE (var x) (var n)) (line_two TextT n (Fin 3 1) x (Fin 3 1) ∷ line NumT x (Fin 2 1) ∷ line_two NumT n (Fin 3 1) x (Fin 1 1) ∷ []) ≡ Some 0)
unfolding line_at is_out gcd gcd_in
applications = (refl, refl, refl, refl, refl)

-- ![r] e : ![r] A, at r times e
bangs :
    (fault (given NumT) (BangE (Fin 3 2) (var x)) (line (BangT (Fin 3 2) NumT) x (Fin 3 1) ∷ line NumT x (Fin 2 1) ∷ []) ≡ None)
    × (fault (given NumT) (BangE (Fin 3 2) (var x)) (line (BangT (Fin 3 2) NumT) x (below 3) ∷ line NumT x (Fin 2 1) ∷ []) ≡ Some 0)
    × (fault (given NumT) (BangE (Fin 3 2) (var x)) (line (BangT (Fin 2 1) NumT) x (Fin 4 1) ∷ line NumT x (Fin 2 1) ∷ []) ≡ Some 0)
    × (fault (given NumT) (BangE Inf (var x)) (line (BangT Inf NumT) x (Fin 4294967295 1) ∷ line NumT x (Fin 2 1) ∷ []) ≡ Some 0)
    × (fault (given NumT) (BangE Inf (var x)) (line (BangT Inf NumT) x Inf ∷ line NumT x (Fin 2 1) ∷ []) ≡ None)
    × (fault (given NumT) (BangE Inf number) (quiet (BangT Inf NumT) ∷ quiet NumT ∷ []) ≡ None)
unfolding line_at is_out gcd gcd_in
bangs = (refl, refl, refl, refl, refl, refl)

-- let !y = e in b where e : ![s] A, at b and k times e, k being y in b over s
unbanged :
    (fault (given (BangT (Fin 3 1) NumT)) (LetBangE y (var x) (var y)) (line NumT x (Fin 4 1) ∷ line (BangT (Fin 3 1) NumT) x (Fin 2 1) ∷ line NumT y (Fin 6 1) ∷ []) ≡ None)
    × (fault (given (BangT (Fin 3 1) NumT)) (LetBangE y (var x) (var y)) (line NumT x (below 4) ∷ line (BangT (Fin 3 1) NumT) x (Fin 2 1) ∷ line NumT y (Fin 6 1) ∷ []) ≡ Some 0)
    × (fault (given (BangT (Fin 3 1) NumT)) (LetBangE y (var x) (var y)) (line NumT x (Fin 2 3) ∷ line (BangT (Fin 3 1) NumT) x (Fin 2 1) ∷ line NumT y (Fin 1 1) ∷ []) ≡ None)
    × (fault (given (BangT (Fin 3 1) NumT)) (LetBangE y (var x) (var n)) (line NumT n (Fin 1 1) ∷ line (BangT (Fin 3 1) NumT) x (Fin 2 1) ∷ line NumT n (Fin 1 1) ∷ []) ≡ None)
    × (fault (given (BangT (Fin 3 1) NumT)) (LetBangE y (var x) (var y)) (line NumT x Inf ∷ line (BangT (Fin 3 1) NumT) x (Fin 2 1) ∷ line NumT y Inf ∷ []) ≡ None)
    × (fault (given (BangT (Fin 3 1) NumT)) (LetBangE y (var x) (var y)) (line NumT x (Fin 4294967295 1) ∷ line (BangT (Fin 3 1) NumT) x (Fin 2 1) ∷ line NumT y Inf ∷ []) ≡ Some 0)
    × (fault (given NumT) (LetBangE y (var x) (var y)) (line NumT x Inf ∷ line NumT x (Fin 2 1) ∷ line NumT y (Fin 1 1) ∷ []) ≡ Some 0)
unfolding line_at is_out gcd gcd_in
unbanged = (refl, refl, refl, refl, refl, refl, refl)

-- over inf k is 0 where y is 0 in b, and else 1
unbanged_of_inf :
    (fault (given (BangT Inf NumT)) (LetBangE y (var x) (var y)) (line NumT x (Fin 2 1) ∷ line (BangT Inf NumT) x (Fin 2 1) ∷ line NumT y (Fin 6 1) ∷ []) ≡ None)
    × (fault (given (BangT Inf NumT)) (LetBangE y (var x) (var y)) (line NumT x (below 2) ∷ line (BangT Inf NumT) x (Fin 2 1) ∷ line NumT y Inf ∷ []) ≡ Some 0)
    × (fault (given (BangT Inf NumT)) (LetBangE y (var x) (var y)) (line NumT x (Fin 2 1) ∷ line (BangT Inf NumT) x (Fin 2 1) ∷ line NumT y Inf ∷ []) ≡ None)
    × (fault (given (BangT Inf NumT)) (LetBangE y (var x) (var n)) (line NumT n (Fin 1 1) ∷ line (BangT Inf NumT) x (Fin 2 1) ∷ line NumT n (Fin 1 1) ∷ []) ≡ None)
unfolding line_at is_out gcd gcd_in
unbanged_of_inf = (refl, refl, refl, refl)

-- let y = e in b, at b and r times e, r being y in b; y has the type of e's line
lets :
    (fault (given NumT) (LetE y (var x) (var y)) (line NumT x (Fin 6 1) ∷ line NumT x (Fin 2 1) ∷ line NumT y (Fin 3 1) ∷ []) ≡ None)
    × (fault (given NumT) (LetE y (var x) (var y)) (line NumT x (below 6) ∷ line NumT x (Fin 2 1) ∷ line NumT y (Fin 3 1) ∷ []) ≡ Some 0)
    × (fault (given NumT) (LetE y (var x) (var y)) (line_two NumT n (Fin 4 1) x (Fin 6 1) ∷ line NumT x (Fin 2 1) ∷ line_two NumT n (Fin 4 1) y (Fin 3 1) ∷ []) ≡ None)
    × (fault (given NumT) (LetE y (var x) (var y)) (line_two NumT n (below 4) x (Fin 6 1) ∷ line NumT x (Fin 2 1) ∷ line_two NumT n (Fin 4 1) y (Fin 3 1) ∷ []) ≡ Some 0)
    × (fault (given NumT) (LetE y (var x) (var y)) (line TextT x (Fin 6 1) ∷ line NumT x (Fin 2 1) ∷ line TextT y (Fin 3 1) ∷ []) ≡ Some 2)
unfolding line_at is_out gcd gcd_in
lets = (refl, refl, refl, refl, refl)
