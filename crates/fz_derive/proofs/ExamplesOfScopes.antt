-- Names in scope, and which node fails first, at worked examples.
use Rattle.std.proofs.Common.{refl}
use Rattle.std.specs.Prelude.{List, [], ◌∷◌, ◌≡◌, None, Some, codes, pos, negsuc}
use Rattle.fz_frac.specs.Distance.{Fin, Inf, none, one}
use Rattle.fz_frac.specs.Lowest.{gcd, gcd_in, is_out}
use Rattle.fz_ast.specs.Terms.{FnE, LetE, NumE, PairE, PlusE, VarE}
use Rattle.fz_ast.specs.Types.{ArrowT, BagT, BangT, BoolT, NumT, SumT, TensorT, TextT, UnitT, UnlimitedT, WithT}
use Rattle.fz_ast.specs.Bare.{nowhere}
use Rattle.derivation_lines.specs.Lines.{line_at}
use Rattle.term_meanings.specs.Scopes.{Closed, Under}
use Rattle.fz_derive.proofs.ExampleLines.{below, fault, given, given_two, line, line_two, n, number, quiet, term, var, x, y}

-- a line says names in scope alone: a foreign one fails at the node whose line says it, and at no other
foreign_names :
    (fault (given NumT) (PlusE (var x) (var x)) (line_two NumT x (Fin 2 1) y (Fin 1 1) ∷ line NumT x one ∷ line NumT x one ∷ []) ≡ Some 0)
    × (fault (given NumT) (PlusE (var x) (var x)) (line NumT x (Fin 2 1) ∷ line NumT x one ∷ line_two NumT x one y (Fin 1 1) ∷ []) ≡ Some 2)
    × (fault Closed (NumE (pos 7)) (line NumT x (Fin 1 1) ∷ []) ≡ Some 0)
    × (fault (given NumT) (LetE y (var x) (var n)) (line NumT n (Fin 1 1) ∷ line NumT x (Fin 1 1) ∷ line NumT n (Fin 1 1) ∷ []) ≡ None)
    × (fault (given NumT) (LetE y (var x) (var n)) (line_two NumT n (Fin 1 1) y (Fin 1 1) ∷ line NumT x (Fin 1 1) ∷ line NumT n (Fin 1 1) ∷ []) ≡ Some 0)
    × (fault (given NumT) (LetE y (var x) (var n)) (line NumT n (Fin 1 1) ∷ line_two NumT x (Fin 1 1) y (Fin 1 1) ∷ line NumT n (Fin 1 1) ∷ []) ≡ Some 1)
unfolding line_at is_out gcd gcd_in
foreign_names = (refl, refl, refl, refl, refl, refl)

-- a name stands for its innermost place: what b says of x is no word of the outer x
hidden_names :
    (fault (given NumT) (LetE x (var x) (var x)) (line NumT x (Fin 1 1) ∷ line NumT x (Fin 1 1) ∷ line NumT x (Fin 1 1) ∷ []) ≡ None)
    × (fault (given NumT) (LetE x number (var x)) (quiet NumT ∷ quiet NumT ∷ line NumT x (Fin 5 1) ∷ []) ≡ None)
    × (fault (given NumT) (FnE x nowhere NumT (var x)) (quiet (UnlimitedT NumT NumT) ∷ line NumT x (Fin 9 1) ∷ []) ≡ None)
    × (fault (Under x NumT (Under x TextT Closed)) (VarE x) (line NumT x (Fin 1 1) ∷ []) ≡ None)
    × (fault (Under x NumT (Under x TextT Closed)) (VarE x) (line TextT x (Fin 1 1) ∷ []) ≡ Some 0)
unfolding line_at is_out gcd gcd_in
hidden_names = (refl, refl, refl, refl, refl)

-- of several nodes whose rules fail it is the least, the whole before its parts and the first part before the second
least_node :
    (fault (given NumT) (PlusE (var x) (var n)) (quiet NumT ∷ quiet NumT ∷ quiet NumT ∷ []) ≡ Some 1)
    × (fault (given NumT) (PlusE (var x) (var n)) (line_two NumT n one x one ∷ line NumT x one ∷ quiet NumT ∷ []) ≡ Some 2)
    × (fault (given NumT) (PlusE (var x) (var n)) (quiet NumT ∷ line NumT x one ∷ quiet NumT ∷ []) ≡ Some 0)
    × (fault (given NumT) (PairE (term (PairE (var x) (var n))) (var x)) (line_two (TensorT (TensorT NumT NumT) NumT) n (Fin 1 1) x (Fin 2 1) ∷ line_two (TensorT NumT NumT) n (Fin 1 1) x (Fin 1 1) ∷ line NumT x one ∷ quiet NumT ∷ quiet NumT ∷ []) ≡ Some 3)
    × (fault (given NumT) (PairE (term (PairE (var x) (var n))) (var x)) (line_two (TensorT (TensorT NumT NumT) NumT) n (Fin 1 1) x (Fin 2 1) ∷ line_two (TensorT NumT NumT) n (Fin 1 1) x (Fin 1 1) ∷ line NumT x one ∷ line NumT n one ∷ quiet NumT ∷ []) ≡ Some 4)
unfolding line_at is_out gcd gcd_in
least_node = (refl, refl, refl, refl, refl)
