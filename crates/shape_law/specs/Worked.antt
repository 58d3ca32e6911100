-- Programs over one table, and functions of rows, with their plans.
use Rattle.std.specs.Prelude.{ℕ, false, zero, suc, codes, pos, ◌≡◌}
use Rattle.fz_ast.specs.Terms.{AppE, FnE, FunE, LeastE, LetE, MapE, Name, NumE, SizeE, SumE, Term, TimesE, UnionE, VarE, at}
use Rattle.fz_ast.specs.Types.{NumT}
use Rattle.metric_law.specs.Worked.{name_at, span, worked_tables}
use Rattle.shape_law.specs.Shapes.{Shape}
use Rattle.shape_law.specs.Walk.{ShapeFault, Shaped, Stops, TooManyWalks, applied_shape, shape}

-- the program has this plan
abbrev pub Plans : Term → (turns depth width walks reach : ℕ) → Type 0
Plans t turns depth width walks reach =
    (r : Shape) × (shape worked_tables t ≡ Shaped r (record { turns = turns; depth = depth; width = width; walks = walks; reach = reach; too_many = false }))

-- its run without data passes this limit first
abbrev pub PassesLimit : Term → ShapeFault → Type 0
PassesLimit t f = shape worked_tables t ≡ Stops f

-- it passes no limit, but its bags take too many walks
abbrev pub WalksTooMuch : Term → Type 0
WalksTooMuch t = shape worked_tables t ≡ TooManyWalks

-- alike of a function of rows
abbrev pub FunctionPlans : Term → (turns depth reach : ℕ) → Type 0
FunctionPlans t turns depth reach =
    (r : Shape) × (applied_shape t ≡ Shaped r (record { turns = turns; depth = depth; width = 0; walks = 0; reach = reach; too_many = false }))

abbrev pub FunctionPassesLimit : Term → ShapeFault → Type 0
FunctionPassesLimit t f = applied_shape t ≡ Stops f

-- fn (r : num) => .. at (0, 9)
abbrev pub of_rows : Term → Term
of_rows b = at (span 0 9) (FnE (codes "r") (span 1 2) NumT b)

-- n times let x = 1 in .., the 1 at (3, 4), and then t
abbrev pub behind_lets : ℕ → Term → Term
behind_lets zero t = t
behind_lets (suc n) t = at (span 0 9) (LetE (codes "x") (at (span 3 4) (NumE (pos 1))) (behind_lets n t))

-- n times `least` over a number at (0, 1)
abbrev pub least_of : ℕ → Term
least_of zero = at (span 0 1) (NumE (pos 1))
least_of (suc n) = at (span 0 9) (LeastE (least_of n))

-- n times `1 * ..` over a term
abbrev pub multiples : ℕ → Term → Term
multiples zero t = t
multiples (suc n) t = at (span 0 0) (TimesE (pos 1) (multiples n t))

-- n times let f = fun (x : num) => f (f x) in .., and then t
abbrev pub twice_applied_in : ℕ → Term → Term
twice_applied_in zero t = t
twice_applied_in (suc n) t =
    at (span 0 0) (LetE (codes "f") (at (span 0 0) (FunE (codes "x") (span 0 0) NumT
    (at (span 0 0) (AppE (name_at 0 0 (codes "f")) (at (span 0 0) (AppE (name_at 0 0 (codes "f")) (name_at 0 0 (codes "x"))))))))
    (twice_applied_in n t))

-- ten functions, the first of 34 nodes, each of the others twice the one before; the last is applied under so many multiples
abbrev pub ten_functions : ℕ → Term
ten_functions n =
    at (span 0 0) (LetE (codes "f") (at (span 0 0) (FunE (codes "x") (span 0 0) NumT (multiples 33 (name_at 7 8 (codes "x")))))
    (twice_applied_in 9 (multiples n (at (span 0 0) (AppE (name_at 0 0 (codes "f")) (at (span 0 0) (NumE (pos 1))))))))

abbrev pub size_of : Name → Term
size_of x = at (span 0 1) (SizeE (at (span 0 1) (VarE x)))

-- n times let x = union x x in .., and then a term of the last x, with the union of n left at (n, n + 1)
abbrev pub doubled_before : ℕ → (Name → Term) → Name → Term
doubled_before zero last x = last x
doubled_before (suc n) last x =
    at (span n n) (LetE (codes "x") (at (span n (suc n)) (UnionE (at (span n n) (VarE x)) (at (span n n) (VarE x)))) (doubled_before n last (codes "x")))

abbrev pub doubled : ℕ → Term
doubled n = doubled_before n size_of (codes "people")

-- fn (y : num) => sum[0,1] x
abbrev pub summed : ℕ → Name → Term
summed n x = at (span n n) (FnE (codes "y") (span n n) NumT (at (span n n) (SumE (pos 0) (pos 1) (at (span n n) (VarE x)))))

-- n times let x = map (fn (y : num) => sum[0,1] x) x in .., and then a term of the last x
abbrev pub nested_before : ℕ → (Name → Term) → Name → Term
nested_before zero last x = last x
nested_before (suc n) last x =
    at (span n n) (LetE (codes "x") (at (span n (suc n)) (MapE (summed n x) (at (span n n) (VarE x)))) (nested_before n last (codes "x")))

abbrev pub nested : ℕ → Term
nested n = nested_before n size_of (codes "people")

-- m maps and then n unions, and the other way round
abbrev pub nested_and_doubled : (m n : ℕ) → Term
nested_and_doubled m n = nested_before m (λ x. doubled n) (codes "people")

abbrev pub doubled_and_nested : (n m : ℕ) → Term
doubled_and_nested n m = doubled_before n (λ x. nested m) (codes "people")

-- fn (y : num) => sum[0,1] (union x x), with the union left at (n, n + 2)
abbrev pub summed_twice : ℕ → Term
summed_twice n =
    at (span n n) (FnE (codes "y") (span n n) NumT (at (span n n) (SumE (pos 0) (pos 1)
    (at (span n (suc (suc n))) (UnionE (at (span n n) (VarE (codes "x"))) (at (span n n) (VarE (codes "x"))))))))

-- n times let x = map (fn (y : num) => sum[0,1] (union x x)) x in .., and then size x
abbrev pub united_in : ℕ → Term
united_in zero = size_of (codes "x")
united_in (suc n) = at (span n n) (LetE (codes "x") (at (span n (suc n)) (MapE (summed_twice n) (at (span n n) (VarE (codes "x"))))) (united_in n))

-- let x = map (fn (y : num) => sum[0,1] people) people in .., and then so
abbrev pub united : ℕ → Term
united n =
    at (span n n) (LetE (codes "x") (at (span n n) (MapE (summed n (codes "people")) (at (span n n) (VarE (codes "people"))))) (united_in n))
