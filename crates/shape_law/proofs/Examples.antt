-- The run without data at worked terms: each form's shape, turns, depth and width, what is visited in which order, and each limit on both sides.
use Rattle.std.proofs.Common.{ap, arith, refl}
use Rattle.std.specs.Prelude.{ℕ, codes, false, pos, suc, true, zero, ◌≡◌}
use Rattle.fz_frac.specs.Distance.{Fin, Inf}
use Rattle.fz_ast.specs.Bare.{nowhere}
use Rattle.fz_ast.specs.Terms.{AppE, BangE, CaseE, ClipE, EqE, FilterE, FnE, FstE, FunE, GreatestE, IfE, InlE, InrE, LeE, LeastE, LetBangE, LetE, LetPairE, MapE, MinusE, NumE, PairE, PlusE, SizeE, SndE, SplitE, SumE, Term, TextE, TimesE, UnionE, UnitE, VarE, WithE, TermForm, TrueE, FalseE, at}
use Rattle.fz_ast.specs.Types.{BangT, NumT, UnitT}
use Rattle.metric_law.specs.Worked.{name_at, numeral_at, span, split_in_halves, bang_undone, unused_names, worked_tables}
use Rattle.shape_law.specs.Shapes.{Also, BangS, FnS, FunS, Nothing, PairS, Shape, Shapes, Wide, bang_shape, first_half, in_bang, pair_shape, second_half, shape_of, side_shape, table_shapes, walks_of, width_of, wider}
use Rattle.shape_law.specs.Walk.{Shaped, Stops, Tally, WalkOutcome, TooDeep, TooLong, TooManyWalks, TooWide, depth_limit, shape, start, told, walk}
use Rattle.shape_law.specs.Worked.{PassesLimit, Plans, ten_functions}

-- words of shapes

abbrev id : Shape
id = FunS (codes "x") (at nowhere (VarE (codes "x"))) Nothing

wider_of_two : wider (Wide 2 0 0) (Wide 3 0 0) ≡ Wide 3 0 0
wider_of_two = refl

function_has_no_width : width_of id ≡ 0
function_has_no_width = refl

ground_pair : pair_shape (Wide 3 0 0) (Wide 2 0 0) ≡ Wide 3 0 0
ground_pair = refl

pair_with_a_function : pair_shape (Wide 3 0 0) id ≡ PairS (Wide 3 0 0) id
pair_with_a_function = refl

halves_of_ground : pair_shape (first_half (Wide 3 0 0)) (second_half (Wide 3 0 0)) ≡ Wide 3 0 0
halves_of_ground = refl

first_of_a_pair : first_half (PairS (Wide 3 0 0) id) ≡ Wide 3 0 0
first_of_a_pair = refl

second_of_a_pair : second_half (PairS (Wide 3 0 0) id) ≡ id
second_of_a_pair = refl

ground_bang : bang_shape (Wide 2 0 0) ≡ Wide 2 0 0
ground_bang = refl

bang_of_a_function : bang_shape id ≡ BangS id
bang_of_a_function = refl

held_by_ground : in_bang (Wide 2 0 0) ≡ Wide 2 0 0
held_by_ground = refl

held_by_a_bang : in_bang (BangS id) ≡ id
held_by_a_bang = refl

innermost_name : shape_of (Also (codes "x") (Wide 1 0 0) (Also (codes "x") (Wide 2 0 0) Nothing)) (codes "x") ≡ Wide 1 0 0
innermost_name = refl

outer_name : shape_of (Also (codes "x") (Wide 1 0 0) (Also (codes "y") (Wide 2 0 0) Nothing)) (codes "y") ≡ Wide 2 0 0
outer_name = refl

a_table_is_one_wide : table_shapes worked_tables ≡ Also (codes "people") (Wide 1 0 0) Nothing
a_table_is_one_wide = refl

-- a term under names, visited at depth 1 with five depths left: its shape, and the turns, depth and width

abbrev under : Shapes
under = Also (codes "b") (Wide 2 0 0) (Also (codes "a") (Wide 1 0 0) Nothing)

abbrev a : Term
a = at nowhere (VarE (codes "a"))

abbrev b : Term
b = at nowhere (VarE (codes "b"))

abbrev Takes : Term → Shape → (turns depth width walks reach : ℕ) → Type 0
Takes t r turns depth width walks reach = walk 5 1 under t start ≡ Shaped r (record { turns = turns; depth = depth; width = width; walks = walks; reach = reach; too_many = false })

-- and with no walks, evaluated as deep as it is visited
abbrev Visits : Term → Shape → (turns depth width : ℕ) → Type 0
Visits t r turns depth width = Takes t r turns depth width 0 depth

-- leaves

a_name : Visits b (Wide 2 0 0) 1 1 2
a_name = refl

a_number : Visits (at nowhere (NumE (pos 7))) (Wide 0 0 0) 1 1 0
a_number = refl

a_text : Visits (at nowhere (TextE (codes "t"))) (Wide 0 0 0) 1 1 0
a_text = refl

a_unit : Visits (at nowhere UnitE) (Wide 0 0 0) 1 1 0
a_unit = refl

-- the body of a function isn't visited where the function stands

a_fun : Visits (at nowhere (FunE (codes "x") nowhere NumT b)) (FunS (codes "x") b under) 1 1 0
a_fun = refl

a_fn : Visits (at nowhere (FnE (codes "x") nowhere NumT b)) (FnS (codes "x") b under) 1 1 0
a_fn = refl

-- one part, one deeper

a_first : Visits (at nowhere (FstE b)) (Wide 2 0 0) 2 2 2
a_first = refl

a_second : Visits (at nowhere (SndE b)) (Wide 2 0 0) 2 2 2
a_second = refl

an_inl : Visits (at nowhere (InlE nowhere UnitT b)) (Wide 2 0 0) 2 2 2
an_inl = refl

an_inr : Visits (at nowhere (InrE nowhere UnitT b)) (Wide 2 0 0) 2 2 2
an_inr = refl

a_bang : Visits (at nowhere (BangE (Fin 2 1) b)) (Wide 2 0 0) 2 2 2
a_bang = refl

a_multiple : Visits (at nowhere (TimesE (pos 3) b)) (Wide 0 0 0) 2 2 2
a_multiple = refl

a_clip : Visits (at nowhere (ClipE (pos 0) (pos 9) b)) (Wide 0 0 0) 2 2 2
a_clip = refl

a_least : Visits (at nowhere (LeastE b)) (Wide 0 0 0) 2 2 2
a_least = refl

a_greatest : Visits (at nowhere (GreatestE b)) (Wide 0 0 0) 2 2 2
a_greatest = refl

a_size : Takes (at nowhere (SizeE b)) (Wide 0 0 0) 2 2 2 1 2
a_size = refl

a_sum : Takes (at nowhere (SumE (pos 0) (pos 9) b)) (Wide 0 0 0) 2 2 2 1 2
a_sum = refl

-- two parts, both one deeper

a_pair : Visits (at nowhere (PairE a b)) (Wide 2 0 0) 3 2 2
a_pair = refl

a_with : Visits (at nowhere (WithE b a)) (Wide 2 0 0) 3 2 2
a_with = refl

an_addition : Visits (at nowhere (PlusE a b)) (Wide 0 0 0) 3 2 2
an_addition = refl

a_subtraction : Visits (at nowhere (MinusE a b)) (Wide 0 0 0) 3 2 2
a_subtraction = refl

an_at_most : Visits (at nowhere (LeE a b)) (Wide 0 0 0) 3 2 2
an_at_most = refl

an_equal : Visits (at nowhere (EqE a b)) (Wide 0 0 0) 3 2 2
an_equal = refl

-- widths of a union add up, and where it is the widest it is kept
a_union : Visits (at nowhere (UnionE a b)) (Wide 3 0 0) 3 2 3
a_union = refl

-- names bound

a_let : Visits (at nowhere (LetE (codes "x") b (at nowhere (VarE (codes "x"))))) (Wide 2 0 0) 3 2 2
a_let = refl

a_let_bang : Visits (at nowhere (LetBangE (codes "x") b (at nowhere (VarE (codes "x"))))) (Wide 2 0 0) 3 2 2
a_let_bang = refl

-- `let (x, y) = (a, fun (z : num) => z) in x`: the first name has the first half's shape
abbrev z : Term
z = at nowhere (VarE (codes "z"))

abbrev unequal_pair : Term
unequal_pair = at nowhere (PairE a (at nowhere (FunE (codes "z") nowhere NumT z)))

a_let_pair_first : Visits (at nowhere (LetPairE (codes "x") (codes "y") unequal_pair (at nowhere (VarE (codes "x"))))) (Wide 1 0 0) 5 3 1
a_let_pair_first = refl

a_let_pair_second : Visits (at nowhere (LetPairE (codes "x") (codes "y") unequal_pair (at nowhere (VarE (codes "y"))))) (FunS (codes "z") z under) 5 3 1
a_let_pair_second = refl

-- where both names are the same, the second is the inner one
a_let_pair_same : Visits (at nowhere (LetPairE (codes "x") (codes "x") unequal_pair (at nowhere (VarE (codes "x"))))) (FunS (codes "z") z under) 5 3 1
a_let_pair_same = refl

-- the condition, and then both branches; the result has the greater width

an_if : Visits (at nowhere (IfE a (at nowhere (UnionE a b)) a)) (Wide 3 0 0) 6 3 3
an_if = refl

an_if_wide_at_last : Visits (at nowhere (IfE a a (at nowhere (UnionE a b)))) (Wide 3 0 0) 6 3 3
an_if_wide_at_last = refl

-- a condition's width isn't the result's
an_if_over_a_wide_condition : Visits (at nowhere (IfE b a a)) (Wide 1 0 0) 4 2 2
an_if_over_a_wide_condition = refl

-- a case's names are as wide as its condition, in both branches
a_case_left : Visits (at nowhere (CaseE b (codes "x") (at nowhere (VarE (codes "x"))) (codes "y") a)) (Wide 2 0 0) 4 2 2
a_case_left = refl

a_case_right : Visits (at nowhere (CaseE b (codes "x") a (codes "y") (at nowhere (VarE (codes "y"))))) (Wide 2 0 0) 4 2 2
a_case_right = refl

-- applications: the function, the argument, and the body, one deeper than the application

abbrev x_twice : Term
x_twice = at nowhere (UnionE (at nowhere (VarE (codes "x"))) (at nowhere (VarE (codes "x"))))

an_application : Visits (at nowhere (AppE (at nowhere (FunE (codes "x") nowhere NumT x_twice)) b)) (Wide 4 0 0) 6 3 4
an_application = refl

an_unlimited_application : Visits (at nowhere (AppE (at nowhere (FnE (codes "x") nowhere NumT x_twice)) (at nowhere (BangE (Fin 2 1) b)))) (Wide 4 0 0) 7 3 4
an_unlimited_application = refl

-- a body keeps the names where the function stood: `let f = fun (x : num) => a in let a = b in f b`
old_names : Visits (at nowhere (LetE (codes "f") (at nowhere (FunE (codes "x") nowhere NumT a)) (at nowhere (LetE (codes "a") b (at nowhere (AppE (at nowhere (VarE (codes "f"))) b)))))) (Wide 1 0 0) 8 4 2
old_names = refl

-- applied twice, a body is visited twice: `(f b, f b)` under `f`
twice_applied : Visits (at nowhere (LetE (codes "f") (at nowhere (FunE (codes "x") nowhere NumT x_twice)) (at nowhere (PairE (at nowhere (AppE (at nowhere (VarE (codes "f"))) b)) (at nowhere (AppE (at nowhere (VarE (codes "f"))) b))))))
    (Wide 4 0 0) 15 5 4
twice_applied = refl

-- a bag primitive: function, bag and then the function's body once with `G(0)`; the result is as wide as the bag,
-- and its functions are evaluated as deep as the body, wherever it is walked

abbrev x_more : Term
x_more = at nowhere (PlusE (at nowhere (VarE (codes "x"))) (at nowhere (NumE (pos 1))))

a_map : Takes (at nowhere (MapE (at nowhere (FnE (codes "x") nowhere NumT x_more)) b)) (Wide 2 0 1) 6 3 2 0 2
a_map = refl

a_filter : Takes (at nowhere (FilterE (at nowhere (FnE (codes "x") nowhere NumT x_more)) b)) (Wide 2 0 1) 6 3 2 0 2
a_filter = refl

a_split : Takes (at nowhere (SplitE (at nowhere (FnE (codes "x") nowhere NumT x_more)) b)) (Wide 2 0 1) 6 3 2 0 2
a_split = refl

-- the body's width isn't the result's, but it is met
a_wide_body : Visits (at nowhere (MapE (at nowhere (FnE (codes "x") nowhere NumT b)) a)) (Wide 1 0 0) 4 2 2
a_wide_body = refl

-- whole programs

counts_of_halves : Plans split_in_halves 12 4 1 2 5
unfolding depth_limit
counts_of_halves = (Wide 0 0 0, refl)

a_bang_undone : Plans bang_undone 5 4 1 1 4
unfolding depth_limit
a_bang_undone = (Wide 0 0 0, refl)

unused_branches : Plans unused_names 6 4 1 1 4
unfolding depth_limit
unused_branches = (Wide 0 0 0, refl)

-- limits

-- n times `least` over a number, at (n, n + 1); the number is at (0, 0)
abbrev nested : ℕ → Term
nested zero = at (span 0 0) (NumE (pos 1))
nested (suc n) = at (span n (suc n)) (LeastE (nested n))

-- 128 visits below each other are within the depth, and the 129th is not
just_deep : shape worked_tables (nested 127) ≡ Shaped (Wide 0 0 0) (record { turns = 128; depth = 128; width = 0; walks = 0; reach = 128; too_many = false })
unfolding depth_limit
just_deep = refl

too_deep : PassesLimit (nested 128) (TooDeep (span 0 0))
unfolding depth_limit
too_deep = refl

too_deep_within : PassesLimit (nested 129) (TooDeep (span 0 1))
unfolding depth_limit
too_deep_within = refl

-- after so many turns a term is visited, or not
abbrev after : ℕ → Tally
after n = record { turns = n; depth = 0; width = 0; walks = 0; reach = 0; too_many = false }

last_turn : walk 5 1 under (numeral_at 3 4 7) (after 19999) ≡ Shaped (Wide 0 0 0) (record { turns = 20000; depth = 1; width = 0; walks = 0; reach = 1; too_many = false })
last_turn = refl

too_long : walk 5 1 under (numeral_at 3 4 7) (after 20000) ≡ Stops (TooLong (span 3 4))
too_long = refl

-- the second part is the first that is visited too late
too_long_at_the_second : walk 5 1 under (at (span 0 5) (PlusE (numeral_at 0 1 7) (numeral_at 4 5 7))) (after 19998) ≡ Stops (TooLong (span 4 5))
too_long_at_the_second = refl

-- where both are passed at once, depth comes first
too_deep_first : walk 0 1 under (numeral_at 3 4 7) (after 20000) ≡ Stops (TooDeep (span 3 4))
too_deep_first = refl

abbrev wide_names : ℕ → Shapes
wide_names w = Also (codes "x") (Wide w 0 0) (Also (codes "y") (Wide 32 0 0) Nothing)

abbrev wide_union : Term
wide_union = at (span 0 9) (UnionE (name_at 6 7 (codes "x")) (name_at 8 9 (codes "y")))

just_wide : walk 5 1 (wide_names 32) wide_union start ≡ Shaped (Wide 64 0 0) (record { turns = 3; depth = 2; width = 64; walks = 0; reach = 2; too_many = false })
just_wide = refl

too_wide : walk 5 1 (wide_names 33) wide_union start ≡ Stops (TooWide (span 0 9) 65)
too_wide = refl

-- a union's parts are visited before it: the inner union stops, and then a part that is too deep
inner_union_first : walk 5 1 (wide_names 33) (at (span 0 20) (UnionE (name_at 0 1 (codes "x")) wide_union)) start ≡ Stops (TooWide (span 0 9) 65)
inner_union_first = refl

depth_before_union : walk 1 1 (wide_names 33) wide_union start ≡ Stops (TooDeep (span 6 7))
depth_before_union = refl

-- and a part that comes a turn too late
turn_before_union : walk 5 1 (wide_names 33) wide_union (after 19998) ≡ Stops (TooLong (span 8 9))
turn_before_union = refl

-- the union comes as soon as its parts are done, before what stands behind it
union_before_its_neighbour : walk 5 1 (wide_names 33) (at (span 0 30) (PairE wide_union (name_at 20 21 (codes "x")))) (after 19996) ≡ Stops (TooWide (span 0 9) 65)
union_before_its_neighbour = refl

-- the order of visits, by the first that comes a turn too late

abbrev ordered_if : Term
ordered_if = at (span 0 9) (IfE (name_at 1 2 (codes "a")) (numeral_at 3 4 7) (numeral_at 5 6 7))

if_first_branch : walk 5 1 under ordered_if (after 19998) ≡ Stops (TooLong (span 3 4))
if_first_branch = refl

if_second_branch : walk 5 1 under ordered_if (after 19997) ≡ Stops (TooLong (span 5 6))
if_second_branch = refl

abbrev ordered_case : Term
ordered_case = at (span 0 9) (CaseE (name_at 1 2 (codes "a")) (codes "x") (numeral_at 3 4 7) (codes "y") (numeral_at 5 6 7))

case_first_branch : walk 5 1 under ordered_case (after 19998) ≡ Stops (TooLong (span 3 4))
case_first_branch = refl

case_second_branch : walk 5 1 under ordered_case (after 19997) ≡ Stops (TooLong (span 5 6))
case_second_branch = refl

abbrev ordered_application : Term
ordered_application = at (span 0 9) (AppE (at (span 1 2) (FunE (codes "x") nowhere NumT (numeral_at 5 6 7))) (name_at 3 4 (codes "b")))

argument_after_function : walk 5 1 under ordered_application (after 19998) ≡ Stops (TooLong (span 3 4))
argument_after_function = refl

body_after_argument : walk 5 1 under ordered_application (after 19997) ≡ Stops (TooLong (span 5 6))
body_after_argument = refl

abbrev ordered_map : Term
ordered_map = at (span 0 9) (MapE (at (span 1 2) (FnE (codes "x") nowhere NumT (numeral_at 5 6 7))) (name_at 3 4 (codes "b")))

bag_after_function : walk 5 1 under ordered_map (after 19998) ≡ Stops (TooLong (span 3 4))
bag_after_function = refl

body_after_bag : walk 5 1 under ordered_map (after 19997) ≡ Stops (TooLong (span 5 6))
body_after_bag = refl

-- an element has no width: a union over it in the body is as wide as the other side
element_without_width : walk 5 1 under (at nowhere (MapE (at nowhere (FnE (codes "x") nowhere NumT (at nowhere (UnionE (at nowhere (VarE (codes "x"))) b)))) a)) start
    ≡ Shaped (Wide 1 0 1) (record { turns = 6; depth = 3; width = 2; walks = 0; reach = 2; too_many = false })
element_without_width = refl

-- a `fun` takes a bang whole, and an `fn` what it holds; so do `let` and `let !x`

abbrev x : Term
x = at nowhere (VarE (codes "x"))

abbrev banged : Term
banged = at nowhere (BangE (Fin 2 1) (at nowhere (FunE (codes "z") nowhere NumT z)))

fun_of_a_bang : Visits (at nowhere (AppE (at nowhere (FunE (codes "x") nowhere NumT x)) banged)) (BangS (FunS (codes "z") z under)) 5 3 0
fun_of_a_bang = refl

fn_of_a_bang : Visits (at nowhere (AppE (at nowhere (FnE (codes "x") nowhere NumT x)) banged)) (FunS (codes "z") z under) 5 3 0
fn_of_a_bang = refl

let_of_a_bang : Visits (at nowhere (LetE (codes "x") banged x)) (BangS (FunS (codes "z") z under)) 4 3 0
let_of_a_bang = refl

let_bang_of_a_bang : Visits (at nowhere (LetBangE (codes "x") banged x)) (FunS (codes "z") z under) 4 3 0
let_bang_of_a_bang = refl

whole_just_long : Plans (ten_functions 14) 20000 77 0 0 77
unfolding depth_limit
whole_just_long = (Wide 0 0 0, refl)

whole_too_long : PassesLimit (ten_functions 15) (TooLong (span 7 8))
unfolding depth_limit
whole_too_long = refl

-- what an outcome tells, by which wrong claims are told apart

abbrev turns_told : WalkOutcome → ℕ
turns_told (Shaped r k) = k.turns
turns_told (Stops f) = 0
turns_told TooManyWalks = 0

abbrev width_told : WalkOutcome → ℕ
width_told (Shaped r k) = k.width
width_told (Stops f) = 0
width_told TooManyWalks = 0

abbrev walks_told : WalkOutcome → ℕ
walks_told (Shaped r k) = k.walks
walks_told (Stops f) = 0
walks_told TooManyWalks = 0

abbrev reach_told : WalkOutcome → ℕ
reach_told (Shaped r k) = k.reach
reach_told (Stops f) = 0
reach_told TooManyWalks = 0

-- `true` and `false` are two nodes each, at the one span

a_true : Visits (TrueE nowhere) (Wide 0 0 0) 2 2 0
a_true = refl

a_false : Visits (FalseE nowhere) (Wide 0 0 0) 2 2 0
a_false = refl

true_is_not_one_turn : Visits (TrueE nowhere) (Wide 0 0 0) 1 1 0 → ⊥
true_is_not_one_turn h = let told : 2 ≡ 1 = ap turns_told h in absurd (omega (arith, told))

inside_of_true_is_too_deep : walk 1 1 under (TrueE (span 3 7)) start ≡ Stops (TooDeep (span 3 7))
inside_of_true_is_too_deep = refl

inside_of_false_is_too_long : walk 5 1 under (FalseE (span 3 8)) (after 19999) ≡ Stops (TooLong (span 3 8))
inside_of_false_is_too_long = refl

-- a case's condition is no part of its width
a_case_over_a_wide_condition : Visits (at nowhere (CaseE b (codes "x") a (codes "y") a)) (Wide 1 0 0) 4 2 2
a_case_over_a_wide_condition = refl

not_as_wide_as_the_condition : Visits (at nowhere (CaseE b (codes "x") a (codes "y") a)) (Wide 2 0 0) 4 2 2 → ⊥
not_as_wide_as_the_condition h = absurd (cc h)

-- a bag primitive's function may be a `fun (x : ![inf] num)`, whose element is in a bang: no width, and held by none
abbrev fun_of_elements : Term
fun_of_elements = at nowhere (FunE (codes "x") nowhere (BangT Inf NumT) (at nowhere (LetBangE (codes "y") x (at nowhere (UnionE (at nowhere (VarE (codes "y"))) b)))))

a_map_by_a_fun : Takes (at nowhere (MapE fun_of_elements a)) (Wide 1 0 2) 8 4 2 0 2
a_map_by_a_fun = refl

a_filter_by_a_fun : Takes (at nowhere (FilterE fun_of_elements a)) (Wide 1 0 2) 8 4 2 0 2
a_filter_by_a_fun = refl

a_split_by_a_fun : Takes (at nowhere (SplitE fun_of_elements a)) (Wide 1 0 2) 8 4 2 0 2
a_split_by_a_fun = refl

not_a_bang_of_a_bag : Visits (at nowhere (MapE fun_of_elements a)) (Wide 1 0 0) 8 4 3 → ⊥
not_a_bang_of_a_bag h = let told : 2 ≡ 3 = ap width_told h in absurd (omega (arith, told))

-- a union that is itself too deep or too late is told so, though it would be too wide, too

union_too_deep : walk 0 1 (wide_names 33) wide_union start ≡ Stops (TooDeep (span 0 9))
union_too_deep = refl

union_too_long : walk 5 1 (wide_names 33) wide_union (after 20000) ≡ Stops (TooLong (span 0 9))
union_too_long = refl

union_too_deep_and_too_long : walk 0 1 (wide_names 33) wide_union (after 20000) ≡ Stops (TooDeep (span 0 9))
union_too_deep_and_too_long = refl

deep_union_is_not_told_wide : walk 0 1 (wide_names 33) wide_union start ≡ Stops (TooWide (span 0 9) 65) → ⊥
deep_union_is_not_told_wide h = absurd (cc h)

late_union_is_not_told_wide : walk 5 1 (wide_names 33) wide_union (after 20000) ≡ Stops (TooWide (span 0 9) 65) → ⊥
late_union_is_not_told_wide h = absurd (cc h)

-- a function that is never applied isn't refused for what is in its body: `let f = fun (z : num) => union x y in y`, and `.. in f y`

abbrev wide_function : Term → Term
wide_function body = at (span 0 40) (LetE (codes "f") (at (span 1 2) (FunE (codes "z") nowhere NumT wide_union)) body)

never_applied : walk 5 1 (wide_names 33) (wide_function (name_at 30 31 (codes "y"))) start ≡ Shaped (Wide 32 0 0) (record { turns = 3; depth = 2; width = 32; walks = 0; reach = 2; too_many = false })
never_applied = refl

once_applied : walk 5 1 (wide_names 33) (wide_function (at (span 30 33) (AppE (name_at 30 31 (codes "f")) (name_at 32 33 (codes "y"))))) start ≡ Stops (TooWide (span 0 9) 65)
once_applied = refl

never_applied_is_not_refused : walk 5 1 (wide_names 33) (wide_function (name_at 30 31 (codes "y"))) start ≡ Stops (TooWide (span 0 9) 65) → ⊥
never_applied_is_not_refused h = absurd (cc h)

-- forms of two parts: a limit at the second, and what the first is refused for before the second comes too late

abbrev SecondIsLate : (Term → Term → TermForm) → Type 0
SecondIsLate form = walk 5 1 under (at (span 0 5) (form (numeral_at 0 1 7) (numeral_at 4 5 7))) (after 19998) ≡ Stops (TooLong (span 4 5))

abbrev FirstIsWide : (Term → Term → TermForm) → Type 0
FirstIsWide form = walk 5 1 (wide_names 33) (at (span 0 30) (form wide_union (name_at 20 21 (codes "x")))) (after 19996) ≡ Stops (TooWide (span 0 9) 65)

order_of_with : SecondIsLate (λ p q. WithE p q) × FirstIsWide (λ p q. WithE p q)
order_of_with = (refl, refl)

order_of_pair : SecondIsLate (λ p q. PairE p q) × FirstIsWide (λ p q. PairE p q)
order_of_pair = (refl, refl)

order_of_sum : SecondIsLate (λ p q. PlusE p q) × FirstIsWide (λ p q. PlusE p q)
order_of_sum = (refl, refl)

order_of_difference : SecondIsLate (λ p q. MinusE p q) × FirstIsWide (λ p q. MinusE p q)
order_of_difference = (refl, refl)

order_of_union : SecondIsLate (λ p q. UnionE p q) × FirstIsWide (λ p q. UnionE p q)
order_of_union = (refl, refl)

order_of_at_most : SecondIsLate (λ p q. LeE p q) × FirstIsWide (λ p q. LeE p q)
order_of_at_most = (refl, refl)

order_of_equal : SecondIsLate (λ p q. EqE p q) × FirstIsWide (λ p q. EqE p q)
order_of_equal = (refl, refl)

order_of_filter : SecondIsLate (λ p q. FilterE p q) × FirstIsWide (λ p q. FilterE p q)
order_of_filter = (refl, refl)

order_of_split : SecondIsLate (λ p q. SplitE p q) × FirstIsWide (λ p q. SplitE p q)
order_of_split = (refl, refl)

not_the_second_first : FirstIsWide (λ p q. LeE q p) → ⊥
not_the_second_first h = absurd (cc h)

-- and the body of the function after its bag

abbrev BodyIsLate : (Term → Term → TermForm) → Type 0
BodyIsLate form = walk 5 1 under (at (span 0 9) (form (at (span 1 2) (FnE (codes "x") nowhere NumT (numeral_at 5 6 7))) (name_at 3 4 (codes "b")))) (after 19997) ≡ Stops (TooLong (span 5 6))

abbrev BagIsWide : (Term → Term → TermForm) → Type 0
BagIsWide form = walk 5 1 (wide_names 33) (at (span 0 30) (form (at (span 10 12) (FnE (codes "x") nowhere NumT (numeral_at 11 12 7))) wide_union)) (after 19995) ≡ Stops (TooWide (span 0 9) 65)

body_of_filter : BodyIsLate (λ p q. FilterE p q) × BagIsWide (λ p q. FilterE p q)
body_of_filter = (refl, refl)

body_of_split : BodyIsLate (λ p q. SplitE p q) × BagIsWide (λ p q. SplitE p q)
body_of_split = (refl, refl)

-- walks of bags

wider_takes_the_greater : wider (Wide 2 5 0) (Wide 3 4 0) ≡ Wide 3 5 0
wider_takes_the_greater = refl

pair_takes_the_greater : pair_shape (Wide 3 4 0) (Wide 2 5 0) ≡ Wide 3 5 0
pair_takes_the_greater = refl

side_takes_the_same : side_shape (Wide 2 5 0) ≡ Wide 2 5 0
side_takes_the_same = refl

function_takes_no_walks : walks_of id ≡ 0
function_takes_no_walks = refl

-- a visit under x, whose functions take i walks for a row, and y, which takes 3
abbrev TakesUnder : (i : ℕ) → Term → Shape → (turns depth width walks reach : ℕ) → Type 0
TakesUnder i t r turns depth width walks reach =
    walk 6 1 (Also (codes "x") (Wide 1 i 0) (Also (codes "y") (Wide 1 3 0) Nothing)) t start
    ≡ Shaped r (record { turns = turns; depth = depth; width = width; walks = walks; reach = reach; too_many = false })

-- and a bag of it takes too many
abbrev RefusedUnder : (i : ℕ) → Term → Type 0
RefusedUnder i t = told (walk 6 1 (Also (codes "x") (Wide 1 i 0) (Also (codes "y") (Wide 1 3 0) Nothing)) t start) ≡ TooManyWalks

abbrev y : Term
y = at nowhere (VarE (codes "y"))

abbrev counted : Term → Term
counted t = at nowhere (SizeE t)

-- map (fn (z : num) => body) bag
abbrev mapped : Term → Term → Term
mapped body bag = at (span 3 8) (MapE (at nowhere (FnE (codes "z") nowhere NumT body)) bag)

abbrev filtered : Term → Term → Term
filtered body bag = at (span 3 8) (FilterE (at nowhere (FnE (codes "z") nowhere NumT body)) bag)

abbrev in_halves : Term → Term → Term
in_halves body bag = at (span 3 8) (SplitE (at nowhere (FnE (codes "z") nowhere NumT body)) bag)

-- a walk, with those that the bag's functions take for a row
size_of_a_table : TakesUnder 0 (counted x) (Wide 0 0 0) 2 2 1 1 2
size_of_a_table = refl

size_of_a_bag : TakesUnder 5 (counted x) (Wide 0 0 0) 2 2 1 6 2
size_of_a_bag = refl

sum_of_a_bag : TakesUnder 5 (at nowhere (SumE (pos 0) (pos 9) x)) (Wide 0 0 0) 2 2 1 6 2
sum_of_a_bag = refl

not_a_walk_less : TakesUnder 5 (counted x) (Wide 0 0 0) 2 2 1 5 2 → ⊥
not_a_walk_less h = let told : 6 ≡ 5 = ap walks_told h in absurd (omega (arith, told))

-- walks beside one another add up; a bag that is used twice is walked twice
used_twice : TakesUnder 5 (at nowhere (PlusE (counted x) (counted x))) (Wide 0 0 0) 5 3 1 12 3
used_twice = refl

both_branches : TakesUnder 5 (at nowhere (IfE (counted x) (counted x) (counted y))) (Wide 0 0 0) 7 3 1 16 3
both_branches = refl

-- a bag that isn't walked takes none; an `if`, a `case` and a pair take what the greater of theirs does, and a union what both do

greater_branch : TakesUnder 5 (at nowhere (IfE z x y)) (Wide 1 5 0) 4 2 1 0 2
greater_branch = refl

lesser_branch_first : TakesUnder 2 (at nowhere (IfE z x y)) (Wide 1 3 0) 4 2 1 0 2
lesser_branch_first = refl

name_of_a_case : TakesUnder 5 (at nowhere (CaseE x (codes "l") (at nowhere (VarE (codes "l"))) (codes "r") z)) (Wide 1 5 0) 4 2 1 0 2
name_of_a_case = refl

side_of_a_sum : TakesUnder 5 (at nowhere (InlE nowhere UnitT x)) (Wide 1 5 0) 2 2 1 0 2
side_of_a_sum = refl

a_union_of_both : TakesUnder 5 (at nowhere (UnionE x y)) (Wide 2 8 0) 3 2 2 0 2
a_union_of_both = refl

a_pair_of_both : TakesUnder 2 (at nowhere (PairE x y)) (Wide 1 3 0) 3 2 1 0 2
a_pair_of_both = refl

-- What a function's body walks is taken for each row of its bag, and where the function stands no walk is counted.

walk_in_a_map : TakesUnder 5 (mapped (counted x) y) (Wide 1 9 1) 5 3 1 0 2
walk_in_a_map = refl

walk_in_a_filter : TakesUnder 5 (filtered (counted x) y) (Wide 1 9 1) 5 3 1 0 2
walk_in_a_filter = refl

walk_in_a_split : TakesUnder 5 (in_halves (counted x) y) (Wide 1 9 1) 5 3 1 0 2
walk_in_a_split = refl

walk_of_a_map : TakesUnder 5 (counted (mapped (counted x) y)) (Wide 0 0 0) 6 4 1 10 3
walk_of_a_map = refl

map_without_a_walk : TakesUnder 5 (counted (mapped z x)) (Wide 0 0 0) 5 3 1 6 3
map_without_a_walk = refl

-- for each table of the bag, so that it has the rows of both where each table has one
walk_over_a_union : TakesUnder 5 (mapped (counted y) (at nowhere (UnionE x x))) (Wide 2 18 1) 7 3 2 0 3
walk_over_a_union = refl

walk_of_a_union : TakesUnder 5 (counted (at nowhere (UnionE x x))) (Wide 0 0 0) 4 3 2 11 3
walk_of_a_union = refl

-- a function's body doesn't see what was walked before it, which counts on: x is walked, then y's map, then y
walks_before_a_map : TakesUnder 5 (at nowhere (PlusE (counted x) (counted (mapped (counted y) y)))) (Wide 0 0 0) 9 5 1 14 4
walks_before_a_map = refl

walks_before_are_kept : TakesUnder 5 (at nowhere (PlusE (counted x) (counted (mapped (counted y) y)))) (Wide 0 0 0) 9 5 1 8 4 → ⊥
walks_before_are_kept h = let told : 14 ≡ 8 = ap walks_told h in absurd (omega (arith, told))

-- the limit: what the bag's functions took and what this one takes is at most 63

just_few_enough : TakesUnder 59 (mapped (counted x) y) (Wide 1 63 1) 5 3 1 0 2
just_few_enough = refl

one_too_many : RefusedUnder 60 (mapped (counted x) y)
one_too_many = refl

just_few_enough_before : TakesUnder 59 (mapped (counted y) x) (Wide 1 63 1) 5 3 1 0 2
just_few_enough_before = refl

one_too_many_before : RefusedUnder 60 (mapped (counted y) x)
one_too_many_before = refl

one_too_many_in_a_filter : RefusedUnder 60 (filtered (counted x) y)
one_too_many_in_a_filter = refl

one_too_many_in_a_split : RefusedUnder 60 (in_halves (counted x) y)
one_too_many_in_a_split = refl

-- of a union, too, and of the tables of one
just_few_enough_in_a_union : TakesUnder 60 (at (span 3 8) (UnionE x y)) (Wide 2 63 0) 3 2 2 0 2
just_few_enough_in_a_union = refl

one_too_many_in_a_union : RefusedUnder 61 (at (span 3 8) (UnionE x y))
one_too_many_in_a_union = refl

just_few_enough_over_a_union : TakesUnder 0 (mapped (counted y) (at nowhere (UnionE x (at nowhere (UnionE x x))))) (Wide 3 12 1) 9 4 3 0 4
just_few_enough_over_a_union = refl

one_too_many_over_a_union : RefusedUnder 28 (mapped (counted y) (at nowhere (UnionE x x)))
one_too_many_over_a_union = refl

-- walks beside one another have no limit, nor has a bag that is walked last
many_beside : TakesUnder 63 (at nowhere (PlusE (counted x) (counted x))) (Wide 0 0 0) 5 3 1 128 3
many_beside = refl

-- from there on the run goes on, the bag's functions taking none
noted_bag : walk 6 1 (Also (codes "x") (Wide 1 60 0) (Also (codes "y") (Wide 1 3 0) Nothing)) (counted (mapped (counted x) y)) start
    ≡ Shaped (Wide 0 0 0) (record { turns = 6; depth = 4; width = 1; walks = 1; reach = 3; too_many = true })
noted_bag = refl

noted_twice : RefusedUnder 60 (at nowhere (PairE (mapped (counted x) y) (at nowhere (UnionE x (mapped (counted x) x)))))
noted_twice = refl

-- so a limit that is passed later comes first, and so does one that was passed before
abbrev Limited : Term → (turns : ℕ) → WalkOutcome
Limited t turns =
    told
    (walk 6 1 (Also (codes "x") (Wide 1 60 0) (Also (codes "y") (Wide 40 3 0) Nothing)) t
    (record { turns = turns; depth = 0; width = 0; walks = 0; reach = 0; too_many = false }))

abbrev wide_pair : Term
wide_pair = at (span 3 8) (UnionE y y)

wide_behind_walks : Limited (at nowhere (PairE (mapped (counted x) x) wide_pair)) 0 ≡ Stops (TooWide (span 3 8) 80)
wide_behind_walks = refl

wide_before_walks : Limited (at nowhere (PairE wide_pair (mapped (counted x) x))) 0 ≡ Stops (TooWide (span 3 8) 80)
wide_before_walks = refl

late_behind_walks : Limited (at nowhere (PairE (mapped (counted x) x) (numeral_at 4 5 7))) 19994 ≡ Stops (TooLong (span 4 5))
late_behind_walks = refl

walks_in_time : Limited (at nowhere (PairE (mapped (counted x) x) (numeral_at 4 5 7))) 19993 ≡ TooManyWalks
walks_in_time = refl

deep_behind_walks : told (walk 4 1 (Also (codes "x") (Wide 1 60 0) Nothing) (at nowhere (PairE (mapped (counted x) x) (at nowhere (FstE (at nowhere (FstE (numeral_at 4 5 7))))))) start)
    ≡ TooManyWalks
deep_behind_walks = refl

too_deep_behind_walks : told
    (walk 4 1 (Also (codes "x") (Wide 1 60 0) Nothing) (at nowhere (PairE (mapped (counted x) x) (at nowhere (FstE (at nowhere (FstE (at nowhere (FstE (numeral_at 4 5 7))))))))) start)
    ≡ Stops (TooDeep (span 4 5))
too_deep_behind_walks = refl

-- a function that is never applied isn't refused for what its body walks
never_applied_walks : TakesUnder 60 (at nowhere (LetE (codes "f") (at nowhere (FunE (codes "w") nowhere NumT (mapped (counted x) y))) y)) (Wide 1 3 0) 3 2 1 0 2
never_applied_walks = refl

-- how deep terms are evaluated

wider_is_as_deep : wider (Wide 2 5 7) (Wide 3 4 6) ≡ Wide 3 5 7
wider_is_as_deep = refl

pair_is_as_deep : pair_shape (Wide 2 5 6) (Wide 3 4 7) ≡ Wide 3 5 7
pair_is_as_deep = refl

side_is_as_deep : side_shape (Wide 2 5 6) ≡ Wide 2 5 6
side_is_as_deep = refl

-- a visit under x, whose functions are evaluated h deep, and y, where it is 3
abbrev ReachesUnder : (h : ℕ) → Term → Shape → (turns depth width walks reach : ℕ) → Type 0
ReachesUnder h t r turns depth width walks reach =
    walk 6 1 (Also (codes "x") (Wide 1 0 h) (Also (codes "y") (Wide 1 0 3) Nothing)) t start
    ≡ Shaped r (record { turns = turns; depth = depth; width = width; walks = walks; reach = reach; too_many = false })

-- and a walk evaluates them too deep
abbrev TooDeepUnder : (h : ℕ) → Term → Type 0
TooDeepUnder h t = told (walk 6 1 (Also (codes "x") (Wide 1 0 h) (Also (codes "y") (Wide 1 0 3) Nothing)) t start) ≡ TooManyWalks

-- a walk evaluates the bag's functions from where its part stands
size_reaches : ReachesUnder 5 (counted x) (Wide 0 0 0) 2 2 1 1 7
size_reaches = refl

sum_reaches : ReachesUnder 5 (at nowhere (SumE (pos 0) (pos 9) x)) (Wide 0 0 0) 2 2 1 1 7
sum_reaches = refl

not_one_less : ReachesUnder 5 (counted x) (Wide 0 0 0) 2 2 1 1 6 → ⊥
not_one_less h = let told : 7 ≡ 6 = ap reach_told h in absurd (omega (arith, told))

-- a bag that isn't walked evaluates nothing
name_reaches : ReachesUnder 5 x (Wide 1 0 5) 1 1 1 0 1
name_reaches = refl

deeper_first : ReachesUnder 5 (at nowhere (PlusE (counted x) (counted y))) (Wide 0 0 0) 5 3 1 2 8
deeper_first = refl

deeper_last : ReachesUnder 5 (at nowhere (PlusE (counted y) (counted x))) (Wide 0 0 0) 5 3 1 2 8
deeper_last = refl

-- a map's function is as deep as its body with the walks in it, or as the bag's functions before it
deep_body : ReachesUnder 5 (mapped (counted x) y) (Wide 1 1 6) 5 3 1 0 2
deep_body = refl

deep_bag : ReachesUnder 5 (mapped (counted y) x) (Wide 1 1 5) 5 3 1 0 2
deep_bag = refl

flat_body : ReachesUnder 5 (mapped z x) (Wide 1 0 5) 4 2 1 0 2
flat_body = refl

deep_filter : ReachesUnder 5 (filtered (counted x) y) (Wide 1 1 6) 5 3 1 0 2
deep_filter = refl

deep_split : ReachesUnder 5 (in_halves (counted x) y) (Wide 1 1 6) 5 3 1 0 2
deep_split = refl

-- and is evaluated where it is walked
deep_map_walked : ReachesUnder 5 (counted (mapped (counted x) y)) (Wide 0 0 0) 6 4 1 2 8
deep_map_walked = refl

-- what was reached before a map is kept
kept_before_a_map : ReachesUnder 5 (at nowhere (PlusE (counted x) (counted (mapped z y)))) (Wide 0 0 0) 8 4 1 2 8
kept_before_a_map = refl

-- the limit
just_shallow : ReachesUnder 398 (at (span 3 8) (SizeE x)) (Wide 0 0 0) 2 2 1 1 400
just_shallow = refl

one_too_deep : TooDeepUnder 399 (at (span 3 8) (SizeE x))
one_too_deep = refl

just_shallow_sum : ReachesUnder 398 (at (span 3 8) (SumE (pos 0) (pos 9) x)) (Wide 0 0 0) 2 2 1 1 400
just_shallow_sum = refl

one_too_deep_sum : TooDeepUnder 399 (at (span 3 8) (SumE (pos 0) (pos 9) x))
one_too_deep_sum = refl

-- of a bag that is never walked nothing is refused, nor where it stands in a body that is not
never_walked : ReachesUnder 399 (mapped (at nowhere (VarE (codes "z"))) x) (Wide 1 0 399) 4 2 1 0 2
never_walked = refl

walked_in_a_body : TooDeepUnder 398 (mapped (at (span 4 6) (SizeE x)) y)
walked_in_a_body = refl
