-- Worked values, one row of the meanings after the other: at the limits, and on both sides of each choice.
use Rattle.std.proofs.Common.{inl, inr, refl}
use Rattle.std.specs.Prelude.{List, [], codes, length, map, neg_ℤ, pos, suc, zero, ℕ, ℤ, ◌∷◌, ◌≡◌}
use Rattle.fz_frac.specs.Distance.{Fin, Inf}
use Rattle.fz_ast.specs.Bare.{nowhere}
use Rattle.fz_ast.specs.Terms.{AppE, BangE, CaseE, ClipE, EqE, FalseE, FilterE, FnE, FstE, FunE, GreatestE, IfE, InlE, InrE, LeE, LeastE, LetBangE, LetE, LetPairE, MapE, MinusE, Name, NumE, PairE, PlusE, SizeE, SndE, SplitE, SumE, Term, TermForm, TextE, TimesE, TrueE, UnionE, UnitE, VarE, WithE, at}
use Rattle.fz_ast.specs.Types.{BangT, NumT, UnitT}
use Rattle.metric_values.specs.Values.{BagV, BangV, Bind, Empty, Env, Flat, FnV, FunV, InlV, InrV, NumF, NumV, PairV, TextF, TextV, UnitV, Value}
use Rattle.term_meanings.specs.Means.{Means, MeansIn, apply, apply_fn}

-- terms that stand nowhere

abbrev t : TermForm → Term
t = at nowhere

abbrev n : ℤ → Term
n z = t (NumE z)

abbrev s : List ℕ → Term
s cs = t (TextE cs)

abbrev X : Name
X = codes "x"

abbrev Y : Name
Y = codes "y"

abbrev x : Term
x = t (VarE X)

abbrev y : Term
y = t (VarE Y)

abbrev f : Term
f = t (VarE (codes "f"))

abbrev v : ℤ → Value
v z = NumV z

-- M, and two more than it
abbrev M : ℤ
M = pos 1125899906842624

-- the form has this value in the environment
abbrev In : Env → TermForm → Value → Type 0
In γ g w = Means γ (at nowhere g) w

-- and in none
abbrev Worth : TermForm → Value → Type 0
Worth = In Empty

-- names

innermost : In (Bind X (v (pos 1)) (Bind X (v (pos 2)) Empty)) (VarE X) (v (pos 1))
innermost = (1, refl)

past_another : In (Bind Y (v (pos 1)) (Bind X (v (pos 2)) Empty)) (VarE X) (v (pos 2))
past_another = (1, refl)

-- what stands there

number : Worth (NumE (neg_ℤ (pos 5))) (v (neg_ℤ (pos 5)))
number = (1, refl)

text : Worth (TextE (codes "ab")) (TextV (codes "ab"))
text = (1, refl)

unit : Worth UnitE UnitV
unit = (1, refl)

true_is_inl : Means Empty (TrueE nowhere) (InlV UnitV)
true_is_inl = (2, (UnitV, refl, refl))

false_is_inr : Means Empty (FalseE nowhere) (InrV UnitV)
false_is_inr = (2, (UnitV, refl, refl))

-- pairs

pair : Worth (PairE (n (pos 1)) (n (pos 2))) (PairV (v (pos 1)) (v (pos 2)))
pair = (2, (v (pos 1), v (pos 2), refl, refl, refl))

with_pair : Worth (WithE (n (pos 1)) (n (pos 2))) (PairV (v (pos 1)) (v (pos 2)))
with_pair = (2, (v (pos 1), v (pos 2), refl, refl, refl))

abbrev one_two : Term
one_two = t (WithE (n (pos 1)) (n (pos 2)))

abbrev two_one : Term
two_one = t (WithE (n (pos 2)) (n (pos 1)))

first : Worth (FstE one_two) (v (pos 1))
first = (3, (v (pos 2), (v (pos 1), v (pos 2), refl, refl, refl)))

second : Worth (SndE one_two) (v (pos 2))
second = (3, (v (pos 1), (v (pos 1), v (pos 2), refl, refl, refl)))

-- let (x, y) = (5, 2) in x - y
names_in_order : Worth (LetPairE X Y (t (PairE (n (pos 5)) (n (pos 2)))) (t (MinusE x y))) (v (pos 3))
names_in_order = (3, (v (pos 5), v (pos 2), (v (pos 5), v (pos 2), refl, refl, refl), (pos 5, pos 2, refl, refl, refl)))

-- let (x, x) = (1, 2) in x
second_name_hides_first : Worth (LetPairE X X (t (PairE (n (pos 1)) (n (pos 2)))) x) (v (pos 2))
second_name_hides_first = (3, (v (pos 1), v (pos 2), (v (pos 1), v (pos 2), refl, refl, refl), refl))

pair_hides_outer : In (Bind X (v (pos 9)) Empty) (LetPairE X Y (t (PairE (n (pos 1)) (n (pos 2)))) x) (v (pos 1))
pair_hides_outer = (3, (v (pos 1), v (pos 2), (v (pos 1), v (pos 2), refl, refl, refl), refl))

-- sums

left_injection : Worth (InlE nowhere UnitT (n (pos 1))) (InlV (v (pos 1)))
left_injection = (2, (v (pos 1), refl, refl))

right_injection : Worth (InrE nowhere UnitT (n (pos 1))) (InrV (v (pos 1)))
right_injection = (2, (v (pos 1), refl, refl))

-- case inl[num] 1 of inl x => x + 10 | inr y => y + 20
left_case : Worth (CaseE (t (InlE nowhere NumT (n (pos 1)))) X (t (PlusE x (n (pos 10)))) Y (t (PlusE y (n (pos 20))))) (v (pos 11))
left_case = (3, inl (v (pos 1), (v (pos 1), refl, refl), (pos 1, pos 10, refl, refl, refl)))

right_case : Worth (CaseE (t (InrE nowhere NumT (n (pos 1)))) X (t (PlusE x (n (pos 10)))) Y (t (PlusE y (n (pos 20))))) (v (pos 21))
right_case = (3, inr (v (pos 1), (v (pos 1), refl, refl), (pos 1, pos 20, refl, refl, refl)))

case_hides_outer : In (Bind X (v (pos 9)) Empty) (CaseE (t (InlE nowhere NumT (n (pos 1)))) X x Y x) (v (pos 1))
case_hides_outer = (3, inl (v (pos 1), (v (pos 1), refl, refl), refl))

-- the name of one branch isn't bound in the other
case_keeps_outer : In (Bind X (v (pos 9)) Empty) (CaseE (t (InrE nowhere NumT (n (pos 1)))) X x Y x) (v (pos 9))
case_keeps_outer = (3, inr (v (pos 1), (v (pos 1), refl, refl), refl))

if_true : Worth (IfE (TrueE nowhere) (n (pos 1)) (n (pos 2))) (v (pos 1))
if_true = (3, inl ((UnitV, refl, refl), refl))

if_false : Worth (IfE (FalseE nowhere) (n (pos 1)) (n (pos 2))) (v (pos 2))
if_false = (3, inr ((UnitV, refl, refl), refl))

-- the other branch needs no value
one_branch_alone : Worth (IfE (TrueE nowhere) (n (pos 1)) y) (v (pos 1))
one_branch_alone = (3, inl ((UnitV, refl, refl), refl))

-- functions

a_function : In (Bind Y (v (pos 1)) Empty) (FunE X nowhere NumT (t (PlusE x y))) (FunV X (t (PlusE x y)) (Bind Y (v (pos 1)) Empty))
a_function = (1, refl)

an_unlimited_function : In (Bind Y (v (pos 1)) Empty) (FnE X nowhere NumT (t (PlusE x y))) (FnV X (t (PlusE x y)) (Bind Y (v (pos 1)) Empty))
an_unlimited_function = (1, refl)

-- (fun (x : num) => x - 2) 5
applied : Worth (AppE (t (FunE X nowhere NumT (t (MinusE x (n (pos 2)))))) (n (pos 5))) (v (pos 3))
applied = (3, (FunV X (t (MinusE x (n (pos 2)))) Empty, v (pos 5), refl, refl, apply (pos 5, pos 2, refl, refl, refl)))

-- let y = 1 in let f = fun (x : num) => x + y in let y = 100 in f 5
keeps_its_environment :
    Worth (LetE Y (n (pos 1)) (t (LetE (codes "f") (t (FunE X nowhere NumT (t (PlusE x y)))) (t (LetE Y (n (pos 100)) (t (AppE f (n (pos 5))))))))) (v (pos 6))
keeps_its_environment = (6, (v (pos 1), refl, (closure, refl, (v (pos 100), refl, (closure, v (pos 5), refl, refl, apply (pos 5, pos 1, refl, refl, refl))))))
  where
    closure : Value
    closure = FunV X (t (PlusE x y)) (Bind Y (v (pos 1)) Empty)

argument_hides_outer : In (Bind X (v (pos 9)) Empty) (AppE (t (FunE X nowhere NumT x)) (n (pos 5))) (v (pos 5))
argument_hides_outer = (3, (FunV X x (Bind X (v (pos 9)) Empty), v (pos 5), refl, refl, apply refl))

-- (fun (x : ![inf] num) => x) (![inf] 5): a bang stays what it is
fun_of_a_bang : Worth (AppE (t (FunE X nowhere (BangT Inf NumT) x)) (t (BangE Inf (n (pos 5))))) (BangV (v (pos 5)))
fun_of_a_bang = (3, (FunV X x Empty, BangV (v (pos 5)), refl, (v (pos 5), refl, refl), apply refl))

-- (fn (x : num) => x + 1) (![inf] 5): x is 5
fn_of_a_bang : Worth (AppE (t (FnE X nowhere NumT (t (PlusE x (n (pos 1)))))) (t (BangE Inf (n (pos 5))))) (v (pos 6))
fn_of_a_bang = (3, (FnV X (t (PlusE x (n (pos 1)))) Empty, BangV (v (pos 5)), refl, (v (pos 5), refl, refl), apply_fn (pos 5, pos 1, refl, refl, refl)))

bang : Worth (BangE (Fin 2 1) (n (pos 5))) (BangV (v (pos 5)))
bang = (2, (v (pos 5), refl, refl))

-- let !x = ![2] 5 in x + 1
opened : Worth (LetBangE X (t (BangE (Fin 2 1) (n (pos 5)))) (t (PlusE x (n (pos 1))))) (v (pos 6))
opened = (3, (v (pos 5), (v (pos 5), refl, refl), (pos 5, pos 1, refl, refl, refl)))

opened_hides_outer : In (Bind X (v (pos 9)) Empty) (LetBangE X (t (BangE (Fin 2 1) (n (pos 5)))) x) (v (pos 5))
opened_hides_outer = (3, (v (pos 5), (v (pos 5), refl, refl), refl))

-- let x = x + 1 in x - 10: the name is bound in the body alone
bound_in_the_body : In (Bind X (v (pos 2)) Empty) (LetE X (t (PlusE x (n (pos 1)))) (t (MinusE x (n (pos 10))))) (v (neg_ℤ (pos 7)))
bound_in_the_body = (3, (v (pos 3), (pos 2, pos 1, refl, refl, refl), (pos 3, pos 10, refl, refl, refl)))

-- arithmetic, clamped once

plus : Worth (PlusE (n (pos 2)) (n (neg_ℤ (pos 5)))) (v (neg_ℤ (pos 3)))
plus = (2, (pos 2, neg_ℤ (pos 5), refl, refl, refl))

plus_up_to_M : Worth (PlusE (n M) (n (pos 1))) (v M)
plus_up_to_M = (2, (M, pos 1, refl, refl, refl))

plus_down_to_M : Worth (PlusE (n (neg_ℤ M)) (n (neg_ℤ (pos 1)))) (v (neg_ℤ M))
plus_down_to_M = (2, (neg_ℤ M, neg_ℤ (pos 1), refl, refl, refl))

minus : Worth (MinusE (n (pos 2)) (n (pos 5))) (v (neg_ℤ (pos 3)))
minus = (2, (pos 2, pos 5, refl, refl, refl))

minus_up_to_M : Worth (MinusE (n M) (n (neg_ℤ (pos 1)))) (v M)
minus_up_to_M = (2, (M, neg_ℤ (pos 1), refl, refl, refl))

minus_down_to_M : Worth (MinusE (n (neg_ℤ M)) (n (pos 1))) (v (neg_ℤ M))
minus_down_to_M = (2, (neg_ℤ M, pos 1, refl, refl, refl))

times : Worth (TimesE (pos 3) (n (pos 5))) (v (pos 15))
times = (2, (pos 5, refl, refl))

times_negative : Worth (TimesE (neg_ℤ (pos 3)) (n (pos 5))) (v (neg_ℤ (pos 15)))
times_negative = (2, (pos 5, refl, refl))

times_zero : Worth (TimesE (pos 0) (n (pos 5))) (v (pos 0))
times_zero = (2, (pos 5, refl, refl))

times_up_to_M : Worth (TimesE (pos 2) (n M)) (v M)
times_up_to_M = (2, (M, refl, refl))

times_down_to_M : Worth (TimesE (neg_ℤ (pos 2)) (n M)) (v (neg_ℤ M))
times_down_to_M = (2, (M, refl, refl))

-- comparisons

at_most_less : Worth (LeE (n (pos 1)) (n (pos 2))) (InlV UnitV)
at_most_less = (2, (pos 1, pos 2, refl, refl, refl))

at_most_equal : Worth (LeE (n (pos 2)) (n (pos 2))) (InlV UnitV)
at_most_equal = (2, (pos 2, pos 2, refl, refl, refl))

at_most_more : Worth (LeE (n (pos 2)) (n (pos 1))) (InrV UnitV)
at_most_more = (2, (pos 2, pos 1, refl, refl, refl))

equal_same : Worth (EqE (n (pos 1)) (n (pos 1))) (InlV UnitV)
equal_same = (2, inl (pos 1, pos 1, refl, refl, refl))

equal_less : Worth (EqE (n (pos 1)) (n (pos 2))) (InrV UnitV)
equal_less = (2, inl (pos 1, pos 2, refl, refl, refl))

equal_more : Worth (EqE (n (pos 2)) (n (pos 1))) (InrV UnitV)
equal_more = (2, inl (pos 2, pos 1, refl, refl, refl))

equal_text : Worth (EqE (s (codes "ab")) (s (codes "ab"))) (InlV UnitV)
equal_text = (2, inr (codes "ab", codes "ab", refl, refl, refl))

another_text : Worth (EqE (s (codes "a")) (s (codes "b"))) (InrV UnitV)
another_text = (2, inr (codes "a", codes "b", refl, refl, refl))

longer_text : Worth (EqE (s (codes "a")) (s (codes "ab"))) (InrV UnitV)
longer_text = (2, inr (codes "a", codes "ab", refl, refl, refl))

-- clip, least, greatest

clip_below : Worth (ClipE (pos 2) (pos 10) (n (neg_ℤ (pos 5)))) (v (pos 2))
clip_below = (2, (neg_ℤ (pos 5), refl, refl))

clip_inside : Worth (ClipE (pos 2) (pos 10) (n (pos 7))) (v (pos 7))
clip_inside = (2, (pos 7, refl, refl))

clip_above : Worth (ClipE (pos 2) (pos 10) (n (pos 15))) (v (pos 10))
clip_above = (2, (pos 15, refl, refl))

clip_turned : Worth (ClipE (pos 10) (pos 2) (n (pos 7))) (v (pos 10))
clip_turned = (2, (pos 7, refl, refl))

least_is_first : Worth (LeastE one_two) (v (pos 1))
least_is_first = (3, (pos 1, pos 2, (v (pos 1), v (pos 2), refl, refl, refl), refl))

least_is_second : Worth (LeastE two_one) (v (pos 1))
least_is_second = (3, (pos 2, pos 1, (v (pos 2), v (pos 1), refl, refl, refl), refl))

greatest_is_second : Worth (GreatestE one_two) (v (pos 2))
greatest_is_second = (3, (pos 1, pos 2, (v (pos 1), v (pos 2), refl, refl, refl), refl))

greatest_is_first : Worth (GreatestE two_one) (v (pos 2))
greatest_is_first = (3, (pos 2, pos 1, (v (pos 2), v (pos 1), refl, refl, refl), refl))

-- bags, by the name b

abbrev b : Term
b = t (VarE (codes "b"))

abbrev With : List Flat → Env
With xs = Bind (codes "b") (BagV xs) Empty

abbrev m : ℕ → Flat
m k = NumF (pos k)

size_counts : In (With (m 7 ∷ m 7 ∷ m 9 ∷ [])) (SizeE b) (v (pos 3))
size_counts = (2, (m 7 ∷ m 7 ∷ m 9 ∷ [], refl, refl))

size_of_none : In (With []) (SizeE b) (v (pos 0))
size_of_none = (2, ([], refl, refl))

-- more than M elements count as M
size_up_to_M : (xs : List Flat) → length xs ≡ 1125899906842625 → In (With xs) (SizeE b) (v M)
size_up_to_M xs h = (2, (xs, refl, rw h refl))

sum_clips_each : In (With (NumF (neg_ℤ (pos 5)) ∷ m 7 ∷ m 25 ∷ [])) (SumE (pos 0) (pos 10) b) (v (pos 17))
sum_clips_each = (2, (neg_ℤ (pos 5) ∷ pos 7 ∷ pos 25 ∷ [], refl, refl))

sum_of_none : In (With []) (SumE (pos 1) (pos 10) b) (v (pos 0))
sum_of_none = (2, ([], refl, refl))

sum_up_to_M : In (With (NumF M ∷ m 1 ∷ [])) (SumE (pos 0) M b) (v M)
sum_up_to_M = (2, (M ∷ pos 1 ∷ [], refl, refl))

sum_down_to_M : In (With (NumF (neg_ℤ M) ∷ NumF (neg_ℤ (pos 1)) ∷ [])) (SumE (neg_ℤ M) M b) (v (neg_ℤ M))
sum_down_to_M = (2, (neg_ℤ M ∷ neg_ℤ (pos 1) ∷ [], refl, refl))

-- clamped once, and not row by row, from whichever end: M + M - M
clamped_once : In (With (NumF M ∷ NumF M ∷ NumF (neg_ℤ M) ∷ [])) (SumE (neg_ℤ M) M b) (v M)
clamped_once = (2, (M ∷ M ∷ neg_ℤ M ∷ [], refl, refl))

clamped_once_backwards : In (With (NumF (neg_ℤ M) ∷ NumF M ∷ NumF M ∷ [])) (SumE (neg_ℤ M) M b) (v M)
clamped_once_backwards = (2, (neg_ℤ M ∷ M ∷ M ∷ [], refl, refl))

union_in_order : In (Bind (codes "b") (BagV (m 2 ∷ m 1 ∷ [])) (Bind X (BagV (m 1 ∷ [])) Empty)) (UnionE b x) (BagV (m 2 ∷ m 1 ∷ m 1 ∷ []))
union_in_order = (2, (m 2 ∷ m 1 ∷ [], m 1 ∷ [], refl, refl, refl))

-- map (fn (x : num) => x + 1) b
map_each : In (With (m 1 ∷ m 5 ∷ [])) (MapE (t (FnE X nowhere NumT (t (PlusE x (n (pos 1)))))) b) (BagV (m 2 ∷ m 6 ∷ []))
map_each = (
  3,
  (
    FnV X (t (PlusE x (n (pos 1)))) (With (m 1 ∷ m 5 ∷ [])),
    m 1 ∷ m 5 ∷ [],
    m 2 ∷ m 6 ∷ [],
    refl,
    refl,
    (m 2, m 6 ∷ [], apply_fn (pos 1, pos 1, refl, refl, refl), (m 6, [], apply_fn (pos 5, pos 1, refl, refl, refl), refl, refl), refl),
    refl,
  ),
)

-- map (fun (y : ![inf] num) => let !x = y in x) b: each element comes as a bang
map_of_bangs : In (With (m 7 ∷ [])) (MapE (t (FunE Y nowhere (BangT Inf NumT) (t (LetBangE X y x)))) b) (BagV (m 7 ∷ []))
map_of_bangs = (3, (FunV Y (t (LetBangE X y x)) (With (m 7 ∷ [])), m 7 ∷ [], m 7 ∷ [], refl, refl, (m 7, [], apply (v (pos 7), refl, refl), refl, refl), refl))

-- fn (x : num) => x <= 2
abbrev small : Term
small = t (FnE X nowhere NumT (t (LeE x (n (pos 2)))))

abbrev three : List Flat
three = m 1 ∷ m 3 ∷ m 2 ∷ []

abbrev small_in_three : Value
small_in_three = FnV X (t (LeE x (n (pos 2)))) (With three)

filter_keeps_the_true : In (With three) (FilterE small b) (BagV (m 1 ∷ m 2 ∷ []))
filter_keeps_the_true = (
  3,
  (
    small_in_three,
    three,
    m 1 ∷ m 2 ∷ [],
    m 3 ∷ [],
    refl,
    refl,
    inl (
      m 2 ∷ [],
      apply_fn (pos 1, pos 2, refl, refl, refl),
      inr ([], apply_fn (pos 3, pos 2, refl, refl, refl), inl ([], apply_fn (pos 2, pos 2, refl, refl, refl), (refl, refl), refl), refl),
      refl,
    ),
    refl,
  ),
)

split_true_then_false : In (With three) (SplitE small b) (PairV (BagV (m 1 ∷ m 2 ∷ [])) (BagV (m 3 ∷ [])))
split_true_then_false = (
  3,
  (
    small_in_three,
    three,
    m 1 ∷ m 2 ∷ [],
    m 3 ∷ [],
    refl,
    refl,
    inl (
      m 2 ∷ [],
      apply_fn (pos 1, pos 2, refl, refl, refl),
      inr ([], apply_fn (pos 3, pos 2, refl, refl, refl), inl ([], apply_fn (pos 2, pos 2, refl, refl, refl), (refl, refl), refl), refl),
      refl,
    ),
    refl,
  ),
)

-- what has no value

unbound : (w : Value) → Worth (VarE X) w → ⊥
unbound w (zero, h) = h
unbound w (suc k, h) = cc h

-- let x = y in 1: what a name stands for has a value first
eager : (w : Value) → Worth (LetE X y (n (pos 1))) w → ⊥
eager w (zero, h) = h
eager w (suc zero, h) = h.1
eager w (suc (suc k), h) = cc h.1

not_numbers : (zs : List ℤ) → TextF (codes "a") ∷ [] ≡ map NumF zs → ⊥
not_numbers [] h = cc h
not_numbers (z ∷ zs) h = cc h

no_sum_of_texts : (w : Value) → In (With (TextF (codes "a") ∷ [])) (SumE (pos 0) (pos 1) b) w → ⊥
no_sum_of_texts w (zero, h) = h
no_sum_of_texts w (suc zero, h) = h.1
no_sum_of_texts w (suc (suc k), h) = not_numbers h.0 (cc h.1)

-- heights: a part is one less high than the whole, and so is the body of what is applied

no_height_below : (w : Value) → MeansIn 1 Empty (t (PlusE (n (pos 1)) (n (pos 2)))) w → ⊥
no_height_below w h = h.2

two_high : MeansIn 2 Empty (t (AppE (t (FunE X nowhere NumT x)) (n (pos 5)))) (v (pos 5))
two_high = (FunV X x Empty, v (pos 5), refl, refl, apply refl)
