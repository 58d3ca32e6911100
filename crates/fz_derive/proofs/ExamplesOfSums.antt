-- The rows of sums and choices at worked examples: each number at its rule, and a little less.
use Rattle.std.proofs.Common.{refl}
use Rattle.std.specs.Prelude.{List, [], ◌∷◌, ◌≡◌, None, Some, codes, pos, negsuc}
use Rattle.fz_frac.specs.Distance.{Fin, Inf, none, one}
use Rattle.fz_frac.specs.Lowest.{gcd, gcd_in, is_out}
use Rattle.fz_ast.specs.Terms.{CaseE, IfE, InlE, InrE, VarE}
use Rattle.fz_ast.specs.Types.{ArrowT, BagT, BangT, BoolT, NumT, SumT, TensorT, TextT, UnitT, UnlimitedT, WithT}
use Rattle.fz_ast.specs.Bare.{nowhere}
use Rattle.derivation_lines.specs.Lines.{line_at}
use Rattle.term_meanings.specs.Scopes.{Closed, Under}
use Rattle.fz_derive.proofs.ExampleLines.{below, fault, given, given_two, line, line_two, n, number, quiet, says, term, var, x, y}

-- inl[T] e : A + T, inr[T] e : T + A, at e; T is well formed, and both are ground
injections :
    (fault (given NumT) (InlE nowhere TextT (var x)) (line (SumT NumT TextT) x (Fin 2 1) ∷ line NumT x (Fin 2 1) ∷ []) ≡ None)
    × (fault (given NumT) (InlE nowhere TextT (var x)) (line (SumT NumT TextT) x (below 2) ∷ line NumT x (Fin 2 1) ∷ []) ≡ Some 0)
    × (fault (given NumT) (InlE nowhere TextT (var x)) (line (SumT TextT NumT) x (Fin 2 1) ∷ line NumT x (Fin 2 1) ∷ []) ≡ Some 0)
    × (fault (given NumT) (InrE nowhere TextT (var x)) (line (SumT TextT NumT) x (Fin 2 1) ∷ line NumT x (Fin 2 1) ∷ []) ≡ None)
    × (fault (given NumT) (InrE nowhere TextT (var x)) (line (SumT TextT NumT) x (below 2) ∷ line NumT x (Fin 2 1) ∷ []) ≡ Some 0)
    × (fault (given NumT) (InlE nowhere (ArrowT NumT NumT) (var x)) (line (SumT NumT (ArrowT NumT NumT)) x (Fin 2 1) ∷ line NumT x (Fin 2 1) ∷ []) ≡ Some 0)
    × (fault (given NumT) (InlE nowhere (BagT (BagT NumT)) (var x)) (line (SumT NumT (BagT (BagT NumT))) x (Fin 2 1) ∷ line NumT x (Fin 2 1) ∷ []) ≡ Some 0)
    × (fault (given (ArrowT NumT NumT)) (InrE nowhere TextT (var x)) (line (SumT TextT (ArrowT NumT NumT)) x (Fin 2 1) ∷ line (ArrowT NumT NumT) x (Fin 2 1) ∷ []) ≡ Some 0)
unfolding line_at is_out gcd gcd_in
injections = (refl, refl, refl, refl, refl, refl, refl, refl)

-- case e of inl x => a | inr y => b, at the greater of a and b, and r times e: r is the greater of x in a and y in b
cases :
    (fault (given (SumT NumT TextT)) (CaseE (var x) x (var x) y number) (line NumT x (Fin 6 1) ∷ line (SumT NumT TextT) x (Fin 2 1) ∷ line NumT x (Fin 3 1) ∷ quiet NumT ∷ []) ≡ None)
    × (fault (given (SumT NumT TextT)) (CaseE (var x) x (var x) y number) (line NumT x (below 6) ∷ line (SumT NumT TextT) x (Fin 2 1) ∷ line NumT x (Fin 3 1) ∷ quiet NumT ∷ []) ≡ Some 0)
    × (fault (given (SumT NumT TextT)) (CaseE (var x) x (var x) y number) (line NumT x (below 8) ∷ line (SumT NumT TextT) x (Fin 2 1) ∷ line NumT x (Fin 3 1) ∷ line NumT y (Fin 4 1) ∷ []) ≡ Some 0)
    × (fault (given (SumT NumT TextT)) (CaseE (var x) x (var x) y number) (line NumT x (Fin 8 1) ∷ line (SumT NumT TextT) x (Fin 2 1) ∷ line NumT x (Fin 3 1) ∷ line NumT y (Fin 4 1) ∷ []) ≡ None)
    × (fault (given (SumT NumT TextT)) (CaseE (var x) x (var x) y number) (line_two NumT n (Fin 5 1) x (Fin 6 1) ∷ line (SumT NumT TextT) x (Fin 2 1) ∷ line_two NumT n (Fin 5 1) x (Fin 3 1) ∷ line NumT n (Fin 4 1) ∷ []) ≡ None)
    × (fault (given (SumT NumT TextT)) (CaseE (var x) x (var x) y number) (line_two NumT n (below 5) x (Fin 6 1) ∷ line (SumT NumT TextT) x (Fin 2 1) ∷ line_two NumT n (Fin 5 1) x (Fin 3 1) ∷ line NumT n (Fin 4 1) ∷ []) ≡ Some 0)
    × (fault (given (SumT NumT TextT)) (CaseE (var x) x (var x) y number) (line TextT x (Fin 6 1) ∷ line (SumT NumT TextT) x (Fin 2 1) ∷ line NumT x (Fin 3 1) ∷ quiet NumT ∷ []) ≡ Some 0)
    × (fault (given (TensorT NumT TextT)) (CaseE (var x) x (var x) y number) (line NumT x (Fin 6 1) ∷ line (TensorT NumT TextT) x (Fin 2 1) ∷ line NumT x (Fin 3 1) ∷ quiet NumT ∷ []) ≡ Some 0)
unfolding line_at is_out gcd gcd_in
cases = (refl, refl, refl, refl, refl, refl, refl, refl)

-- r is 1 where neither name is used; where a branch says a little of its name, r is that little
cases_with_unused_names :
    (fault (given (SumT NumT TextT)) (CaseE (var x) x number y number) (line NumT x (Fin 2 1) ∷ line (SumT NumT TextT) x (Fin 2 1) ∷ quiet NumT ∷ quiet NumT ∷ []) ≡ None)
    × (fault (given (SumT NumT TextT)) (CaseE (var x) x number y number) (line NumT x (below 2) ∷ line (SumT NumT TextT) x (Fin 2 1) ∷ quiet NumT ∷ quiet NumT ∷ []) ≡ Some 0)
    × (fault (given (SumT NumT TextT)) (CaseE (var x) x number y number) (quiet NumT ∷ line (SumT NumT TextT) x (Fin 2 1) ∷ quiet NumT ∷ quiet NumT ∷ []) ≡ Some 0)
    × (fault (given (SumT NumT TextT)) (CaseE (var x) x number y number) (line NumT x (Fin 1 1) ∷ line (SumT NumT TextT) x (Fin 2 1) ∷ line NumT x (Fin 1 2) ∷ quiet NumT ∷ []) ≡ None)
    × (fault (given (SumT NumT TextT)) (CaseE (var x) x number y number) (line NumT x (below 1) ∷ line (SumT NumT TextT) x (Fin 2 1) ∷ line NumT x (Fin 1 2) ∷ quiet NumT ∷ []) ≡ Some 0)
unfolding line_at is_out gcd gcd_in
cases_with_unused_names = (refl, refl, refl, refl, refl)

-- both branches have one type, without a function
branches_of_one_ground_type :
    (fault (given (SumT NumT TextT)) (CaseE (var x) x (var x) y (var y)) (line NumT x (Fin 2 1) ∷ line (SumT NumT TextT) x (Fin 2 1) ∷ line NumT x (Fin 1 1) ∷ line TextT y (Fin 1 1) ∷ []) ≡ Some 0)
    × (fault (given_two (SumT NumT NumT) (ArrowT NumT NumT)) (CaseE (var x) x (var y) n (var y)) (line_two (ArrowT NumT NumT) x (Fin 2 1) y (Fin 1 1) ∷ line (SumT NumT NumT) x (Fin 2 1) ∷ line (ArrowT NumT NumT) y (Fin 1 1) ∷ line (ArrowT NumT NumT) y (Fin 1 1) ∷ []) ≡ Some 0)
    × (fault (given_two (SumT NumT NumT) TextT) (CaseE (var x) x (var y) n (var y)) (line_two TextT x (Fin 2 1) y (Fin 1 1) ∷ line (SumT NumT NumT) x (Fin 2 1) ∷ line TextT y (Fin 1 1) ∷ line TextT y (Fin 1 1) ∷ []) ≡ None)
unfolding line_at is_out gcd gcd_in
branches_of_one_ground_type = (refl, refl, refl)

-- if e then a else b, at the greater of a and b, and e
choices :
    (fault (given_two BoolT NumT) (IfE (var x) (var y) (var n)) ((record { ty = NumT; says = says n one ∷ says x (Fin 2 1) ∷ says y (Fin 3 1) ∷ [] }) ∷ line BoolT x (Fin 2 1) ∷ line NumT y (Fin 3 1) ∷ line_two NumT n (Fin 1 1) y (Fin 1 1) ∷ []) ≡ None)
    × (fault (given_two BoolT NumT) (IfE (var x) (var y) (var n)) ((record { ty = NumT; says = says n one ∷ says x (Fin 2 1) ∷ says y (below 3) ∷ [] }) ∷ line BoolT x (Fin 2 1) ∷ line NumT y (Fin 3 1) ∷ line_two NumT n (Fin 1 1) y (Fin 1 1) ∷ []) ≡ Some 0)
    × (fault (given_two BoolT NumT) (IfE (var x) (var y) (var n)) ((record { ty = NumT; says = says n one ∷ says x (below 2) ∷ says y (Fin 3 1) ∷ [] }) ∷ line BoolT x (Fin 2 1) ∷ line NumT y (Fin 3 1) ∷ line_two NumT n (Fin 1 1) y (Fin 1 1) ∷ []) ≡ Some 0)
    × (fault (given_two BoolT NumT) (IfE (var x) (var y) (var x)) (line_two NumT x (Fin 4 1) y (Fin 3 1) ∷ line BoolT x (Fin 2 1) ∷ line NumT y (Fin 3 1) ∷ line BoolT x (Fin 2 1) ∷ []) ≡ Some 0)
    × (fault (given NumT) (IfE (var x) (var n) (var n)) (line_two NumT n (Fin 1 1) x (Fin 2 1) ∷ line NumT x (Fin 2 1) ∷ line NumT n (Fin 1 1) ∷ line NumT n (Fin 1 1) ∷ []) ≡ Some 0)
    × (fault (given_two BoolT (ArrowT NumT NumT)) (IfE (var x) (var y) (var y)) (line_two (ArrowT NumT NumT) x (Fin 2 1) y (Fin 3 1) ∷ line BoolT x (Fin 2 1) ∷ line (ArrowT NumT NumT) y (Fin 3 1) ∷ line (ArrowT NumT NumT) y (Fin 3 1) ∷ []) ≡ Some 0)
unfolding line_at is_out gcd gcd_in
choices = (refl, refl, refl, refl, refl, refl)
