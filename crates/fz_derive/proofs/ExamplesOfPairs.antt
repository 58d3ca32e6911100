-- The rows of names, leaves and pairs at worked examples: each number at its rule, and a little less.
use Rattle.std.proofs.Common.{refl}
use Rattle.std.specs.Prelude.{List, [], ◌∷◌, ◌≡◌, None, Some, codes, pos, negsuc}
use Rattle.fz_frac.specs.Distance.{Fin, Inf, none, one}
use Rattle.fz_frac.specs.Lowest.{gcd, gcd_in, is_out}
use Rattle.fz_ast.specs.Terms.{FstE, LetPairE, NumE, PairE, PlusE, SndE, TextE, UnitE, VarE, WithE}
use Rattle.fz_ast.specs.Types.{ArrowT, BagT, BangT, BoolT, NumT, SumT, TensorT, TextT, UnitT, UnlimitedT, WithT}
use Rattle.fz_ast.specs.Bare.{nowhere}
use Rattle.derivation_lines.specs.Lines.{line_at}
use Rattle.term_meanings.specs.Scopes.{Closed, Under}
use Rattle.fz_derive.proofs.ExampleLines.{below, fault, given, given_two, line, line_two, n, number, quiet, term, var, x, y}

-- x : its type, at 1; a number says nothing, and more may be said
names :
    (fault (given NumT) (VarE x) (line NumT x one ∷ []) ≡ None)
    × (fault (given NumT) (VarE x) (line NumT x (below 1) ∷ []) ≡ Some 0)
    × (fault (given NumT) (VarE x) (quiet NumT ∷ []) ≡ Some 0)
    × (fault (given NumT) (VarE x) (line_two NumT n (Fin 3 1) x Inf ∷ []) ≡ None)
    × (fault (given NumT) (VarE x) (line TextT x one ∷ []) ≡ Some 0)
    × (fault (given NumT) (VarE y) (line NumT y one ∷ []) ≡ Some 0)
    × (fault (given NumT) (NumE (pos 7)) (quiet NumT ∷ []) ≡ None)
    × (fault (given NumT) (NumE (pos 7)) (line NumT x (Fin 5 1) ∷ []) ≡ None)
    × (fault (given NumT) (NumE (pos 7)) (quiet TextT ∷ []) ≡ Some 0)
    × (fault (given NumT) (TextE (codes "a")) (quiet TextT ∷ []) ≡ None)
    × (fault (given NumT) (TextE (codes "a")) (quiet UnitT ∷ []) ≡ Some 0)
    × (fault (given NumT) UnitE (quiet UnitT ∷ []) ≡ None)
    × (fault (given NumT) UnitE (quiet NumT ∷ []) ≡ Some 0)
unfolding line_at is_out gcd gcd_in
names = (refl, refl, refl, refl, refl, refl, refl, refl, refl, refl, refl, refl, refl)

-- (a, b) : A * B, at the sum of both
pairs :
    (fault (given NumT) (PairE (var x) (var n)) (line_two (TensorT NumT NumT) n (Fin 1 1) x (Fin 5 1) ∷ line NumT x (Fin 2 1) ∷ line_two NumT n one x (Fin 3 1) ∷ []) ≡ None)
    × (fault (given NumT) (PairE (var x) (var n)) (line_two (TensorT NumT NumT) n (Fin 1 1) x (below 5) ∷ line NumT x (Fin 2 1) ∷ line_two NumT n one x (Fin 3 1) ∷ []) ≡ Some 0)
    × (fault (given NumT) (PairE (var x) (var n)) (line_two (TensorT NumT NumT) n (below 1) x (Fin 5 1) ∷ line NumT x (Fin 2 1) ∷ line_two NumT n one x (Fin 3 1) ∷ []) ≡ Some 0)
    × (fault (given NumT) (PairE (var x) (var n)) (line_two (WithT NumT NumT) n (Fin 1 1) x (Fin 5 1) ∷ line NumT x (Fin 2 1) ∷ line_two NumT n one x (Fin 3 1) ∷ []) ≡ Some 0)
    × (fault (given NumT) (PairE (var x) (var n)) (line_two (TensorT NumT NumT) n Inf x Inf ∷ line NumT x Inf ∷ line_two NumT n one x (Fin 3 1) ∷ []) ≡ None)
unfolding line_at is_out gcd gcd_in
pairs = (refl, refl, refl, refl, refl)

-- <a, b> : A & B, at the greater of both
with_pairs :
    (fault (given NumT) (WithE (var x) (var n)) (line_two (WithT NumT NumT) n (Fin 1 1) x (Fin 3 1) ∷ line NumT x (Fin 2 1) ∷ line_two NumT n one x (Fin 3 1) ∷ []) ≡ None)
    × (fault (given NumT) (WithE (var x) (var n)) (line_two (WithT NumT NumT) n (Fin 1 1) x (below 3) ∷ line NumT x (Fin 2 1) ∷ line_two NumT n one x (Fin 3 1) ∷ []) ≡ Some 0)
    × (fault (given NumT) (WithE (var x) (var n)) (line_two (TensorT NumT NumT) n (Fin 1 1) x (Fin 3 1) ∷ line NumT x (Fin 2 1) ∷ line_two NumT n one x (Fin 3 1) ∷ []) ≡ Some 0)
unfolding line_at is_out gcd gcd_in
with_pairs = (refl, refl, refl)

-- fst e, snd e : the sides of A & B, at e
sides :
    (fault (given (WithT NumT TextT)) (FstE (var x)) (line NumT x (Fin 2 1) ∷ line (WithT NumT TextT) x (Fin 2 1) ∷ []) ≡ None)
    × (fault (given (WithT NumT TextT)) (FstE (var x)) (line NumT x (below 2) ∷ line (WithT NumT TextT) x (Fin 2 1) ∷ []) ≡ Some 0)
    × (fault (given (WithT NumT TextT)) (FstE (var x)) (line TextT x (Fin 2 1) ∷ line (WithT NumT TextT) x (Fin 2 1) ∷ []) ≡ Some 0)
    × (fault (given (WithT NumT TextT)) (SndE (var x)) (line TextT x (Fin 2 1) ∷ line (WithT NumT TextT) x (Fin 2 1) ∷ []) ≡ None)
    × (fault (given (WithT NumT TextT)) (SndE (var x)) (line TextT x (below 2) ∷ line (WithT NumT TextT) x (Fin 2 1) ∷ []) ≡ Some 0)
    × (fault (given (TensorT NumT NumT)) (FstE (var x)) (line NumT x (Fin 2 1) ∷ line (TensorT NumT NumT) x (Fin 2 1) ∷ []) ≡ Some 0)
unfolding line_at is_out gcd gcd_in
sides = (refl, refl, refl, refl, refl, refl)

-- let (x, y) = e in b, at b and the greater of x and y in b times e; the names in b are bound ones
taken_apart :
    (fault (given (TensorT NumT NumT)) (LetPairE x y (var x) (term (PlusE (var x) (var y)))) (line NumT x (Fin 6 1) ∷ line (TensorT NumT NumT) x (Fin 2 1) ∷ line_two NumT x (Fin 3 1) y (Fin 2 1) ∷ line NumT x (Fin 3 1) ∷ line NumT y (Fin 2 1) ∷ []) ≡ None)
    × (fault (given (TensorT NumT NumT)) (LetPairE x y (var x) (term (PlusE (var x) (var y)))) (line NumT x (below 6) ∷ line (TensorT NumT NumT) x (Fin 2 1) ∷ line_two NumT x (Fin 3 1) y (Fin 2 1) ∷ line NumT x (Fin 3 1) ∷ line NumT y (Fin 2 1) ∷ []) ≡ Some 0)
    × (fault (given (TensorT NumT NumT)) (LetPairE y x (var x) (term (PlusE (var x) (var y)))) (line NumT x (Fin 6 1) ∷ line (TensorT NumT NumT) x (Fin 2 1) ∷ line_two NumT x (Fin 3 1) y (Fin 2 1) ∷ line NumT x (Fin 3 1) ∷ line NumT y (Fin 2 1) ∷ []) ≡ None)
    × (fault (given (TensorT NumT NumT)) (LetPairE y x (var x) (term (PlusE (var x) (var y)))) (line NumT x (below 6) ∷ line (TensorT NumT NumT) x (Fin 2 1) ∷ line_two NumT x (Fin 3 1) y (Fin 2 1) ∷ line NumT x (Fin 3 1) ∷ line NumT y (Fin 2 1) ∷ []) ≡ Some 0)
    × (fault (given (TensorT NumT NumT)) (LetPairE x y (var x) (var n)) (line NumT n (Fin 1 1) ∷ line (TensorT NumT NumT) x (Fin 2 1) ∷ line NumT n (Fin 1 1) ∷ []) ≡ None)
    × (fault (given (TensorT NumT NumT)) (LetPairE x y (var x) (var n)) (line NumT x (Fin 9 1) ∷ line (TensorT NumT NumT) x (Fin 2 1) ∷ line NumT n (Fin 1 1) ∷ []) ≡ Some 0)
    × (fault (given (WithT NumT TextT)) (LetPairE x y (var x) (var n)) (line_two NumT n (Fin 1 1) x (Fin 9 1) ∷ line (WithT NumT TextT) x (Fin 2 1) ∷ line NumT n (Fin 1 1) ∷ []) ≡ Some 0)
unfolding line_at is_out gcd gcd_in
taken_apart = (refl, refl, refl, refl, refl, refl, refl)

-- where both names are one, the second hides the first: the type is the second's, and r its number
hidden_by_the_second :
    (fault (given (TensorT TextT NumT)) (LetPairE y y (var x) (var y)) (line NumT x (Fin 6 1) ∷ line (TensorT TextT NumT) x (Fin 2 1) ∷ line NumT y (Fin 3 1) ∷ []) ≡ None)
    × (fault (given (TensorT TextT NumT)) (LetPairE y y (var x) (var y)) (line NumT x (below 6) ∷ line (TensorT TextT NumT) x (Fin 2 1) ∷ line NumT y (Fin 3 1) ∷ []) ≡ Some 0)
    × (fault (given (TensorT TextT NumT)) (LetPairE y y (var x) (var y)) (line TextT x (Fin 6 1) ∷ line (TensorT TextT NumT) x (Fin 2 1) ∷ line TextT y (Fin 3 1) ∷ []) ≡ Some 2)
unfolding line_at is_out gcd gcd_in
hidden_by_the_second = (refl, refl, refl)
