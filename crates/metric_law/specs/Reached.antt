-- Terms whose values move by just as much as the typing rules say: one for each rule with a scalar.
use Rattle.std.specs.Prelude.{List, codes, pos, ℤ}
use Rattle.fz_frac.specs.Distance.{Distance, ◌⊑◌}
use Rattle.fz_ast.specs.Bare.{nowhere}
use Rattle.fz_ast.specs.Terms.{BangE, CaseE, EqE, FnE, LeE, LetBangE, LetE, LetPairE, MapE, NumE, SumE, Term, TimesE, VarE, at}
use Rattle.fz_ast.specs.Types.{BagT, NumT, Ty}
use Rattle.linear_types.specs.Sensitivities.{Sensitivities}
use Rattle.linear_types.specs.Typing.{AllTypes, Closed, Context, Typing, Under}
use Rattle.metric_law.specs.Law.{dot}
use Rattle.metric_law.specs.Unsound.{Moves}

-- the term has a type and sensitivities whose bound, at δ, is the least that holds
abbrev pub Reached : Context → Term → List Distance → Type 0
Reached Γ e δ = (A : Ty) × (D : Sensitivities) × AllTypes Γ × Typing Γ e A D × ((d : Distance) → (dot D δ ⊑ d → ⊥) → Moves Γ e A δ d)

abbrev pub n_of : Ty → Context
n_of A = Under (codes "n") A Closed

abbrev pub n : Term
n = at nowhere (VarE (codes "n"))

abbrev pub x : Term
x = at nowhere (VarE (codes "x"))

abbrev pub y : Term
y = at nowhere (VarE (codes "y"))

abbrev pub num : ℤ → Term
num z = at nowhere (NumE z)

-- ![r] e
abbrev pub bang : Distance → Term → Term
bang r e = at nowhere (BangE r e)

-- let x = n in ![r] x
abbrev pub let_of : Distance → Term
let_of r = at nowhere (LetE (codes "x") n (bang r x))

-- let !x = n in ![r] x
abbrev pub let_bang_of : Distance → Term
let_bang_of r = at nowhere (LetBangE (codes "x") n (bang r x))

-- let (x, y) = n in ![r] x
abbrev pub first_name_of : Distance → Term
first_name_of r = at nowhere (LetPairE (codes "x") (codes "y") n (bang r x))

-- let (x, y) = n in ![r] y
abbrev pub second_name_of : Distance → Term
second_name_of r = at nowhere (LetPairE (codes "x") (codes "y") n (bang r y))

-- case n of inl x => ![r] x | inr y => ![r] 0
abbrev pub left_case_of : Distance → Term
left_case_of r = at nowhere (CaseE n (codes "x") (bang r x) (codes "y") (bang r (num (pos 0))))

-- case n of inl x => ![r] 0 | inr y => ![r] y
abbrev pub right_case_of : Distance → Term
right_case_of r = at nowhere (CaseE n (codes "x") (bang r (num (pos 0))) (codes "y") (bang r y))

-- k * n
abbrev pub times_of : ℤ → Term
times_of k = at nowhere (TimesE k n)

-- sum[lo,hi] n
abbrev pub sum_between : ℤ → ℤ → Term
sum_between lo hi = at nowhere (SumE lo hi n)

-- n <= 0
abbrev pub at_most_zero : Term
at_most_zero = at nowhere (LeE n (num (pos 0)))

-- 1 <= n
abbrev pub at_least_one : Term
at_least_one = at nowhere (LeE (num (pos 1)) n)

-- n == 0
abbrev pub equal_to_zero : Term
equal_to_zero = at nowhere (EqE n (num (pos 0)))

-- 0 == n
abbrev pub zero_is_equal : Term
zero_is_equal = at nowhere (EqE (num (pos 0)) n)

-- map (fn (x : num) => n) b
abbrev pub map_to_n : Term
map_to_n = at nowhere (MapE (at nowhere (FnE (codes "x") nowhere NumT n)) (at nowhere (VarE (codes "b"))))

abbrev pub n_and_a_bag : Context
n_and_a_bag = Under (codes "n") NumT (Under (codes "b") (BagT NumT) Closed)
