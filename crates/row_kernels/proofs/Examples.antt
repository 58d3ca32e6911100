-- What lanes stand for, and what signs and words give of them, at worked rows.
use Rattle.std.proofs.Common.{◌≡◌, ◌<◌, ◌+◌, ◌∙◌, ◌∷◌, [], List, ap, arith, get_or, length, pos, refl, suc, sym, zero, ℕ, ℤ}
use Rattle.std.specs.Prelude.{None, Some, codes, false, neg_ℤ, true}
use Rattle.std.specs.Rc.{rc_value}
use Rattle.fz_ast.specs.Names.{name_of}
use Rattle.fz_ast.specs.Terms.{NumE, PlusE, UnitE, VarE, at}
use Rattle.fz_ast.specs.declared.name.Name.{Name as Written}
use Rattle.fz_ast.specs.declared.span.Span.{Span}
use Rattle.fz_ast.specs.declared.term.Binary.TheVariants.{Pair as Both, With, Plus, Minus, AtMost, Equal, Union}
use Rattle.fz_ast.specs.declared.term.Unary.TheVariants.{Fst, Snd, Least, Greatest, Size}
use Rattle.fz_ast.specs.declared.term.Side.TheVariants.{Inl, Inr}
use Rattle.metric_law.specs.Means.{MeansIn, find}
use Rattle.metric_values.specs.Cells.{cell_at, columns_in, from_column, row_at}
use Rattle.metric_values.specs.Values.{Bind, Empty, Env, Flat, InlV, InrV, NumF, NumV, PairF, PairV, TextF, TextV, UnitV, truth, value_of}
use Rattle.row_kernels.specs.declared.frames.Frame.{Frame}
use Rattle.row_kernels.specs.declared.frames.Link.{Link}
use Rattle.row_kernels.specs.declared.frames.Link.TheVariants.{End}
use Rattle.row_kernels.specs.declared.lanes.Lanes.{Lanes}
use Rattle.row_kernels.specs.declared.lanes.Lanes.TheVariants.{Num, Truth, Same, Text, Part, Cells, Pair'}
use Rattle.row_kernels.specs.Calls.{IsUnitTerm}
use Rattle.row_kernels.specs.Cells.{AreCells}
use Rattle.row_kernels.specs.Frames.{frames_of}
use Rattle.row_kernels.specs.Lanes.{AreThere, IsLong, IsSign, IsWord, clip_value, env_at, lane_at, literal_value, sign_value, times_value, word_value}
use Rattle.row_kernels.specs.declared.gather.Gather.TheVariants.{Size, Sum}
use Rattle.row_kernels.specs.Flows.{IsRow}
use Rattle.row_kernels.specs.Gathers.{count_there, gathered, sum_there}

-- P holds of the lanes made of each reference to a vector of these elements
abbrev OnItems : {T R : Type 0} → List T → (R → Lanes) → (R → List T) → (Lanes → Type 0) → Type 0
OnItems {T} {R} xs form items P = (v : R) → items v ≡ xs → P (form v)

abbrev ages : List ℤ
ages = pos 30 ∷ neg_ℤ (pos 4) ∷ []

second_number : OnItems ages (λ v. Num v) (λ v. (rc_value v).items) (λ l. lane_at l 1 ≡ NumV (neg_ℤ (pos 4)))
second_number v is = ap (λ xs. NumV (get_or xs 1 (pos 0))) is

two_numbers : OnItems ages (λ v. Num v) (λ v. (rc_value v).items) (λ l. IsLong 2 l)
two_numbers v is = ap length is

no_three_numbers : OnItems ages (λ v. Num v) (λ v. (rc_value v).items) (λ l. IsLong 3 l → ⊥)
no_three_numbers v is h = let e : 2 ≡ 3 = sym (ap length is) ∙ h in absurd (omega (arith, e))

second_truth : OnItems (true ∷ false ∷ []) (λ v. Truth v) (λ v. (rc_value v).items) (λ l. lane_at l 1 ≡ InrV UnitV)
second_truth v is = ap (λ bs. truth (get_or bs 1 false)) is

-- one for all
same_number_for_all : lane_at (Same (pos 7)) 1023 ≡ NumV (pos 7)
same_number_for_all = refl

same_text_for_all : OnItems (codes "oslo") (λ v. Text v) (λ v. (rc_value v).items) (λ l. lane_at l 1023 ≡ TextV (codes "oslo"))
same_text_for_all v is = ap TextV is

-- pairs have their halves in order
pair_for_all : OnItems {T = ℕ} [] (λ p. Pair' p (Same (pos 1)) (Same (pos 2))) (λ p. []) (λ l. lane_at l 5 ≡ PairV (NumV (pos 1)) (NumV (pos 2)))
pair_for_all p is = refl

-- in a table of three rows, each a number, a town and a number

abbrev towns : List Flat
towns =
    PairF (NumF (pos 1)) (PairF (TextF (codes "a")) (NumF (pos 2)))
    ∷ PairF (NumF (pos 3)) (PairF (TextF (codes "bc")) (NumF (pos 4)))
    ∷ PairF (NumF (pos 5)) (PairF (TextF []) (NumF (pos 6)))
    ∷ []

-- P holds of the lanes made of each reference to that table
abbrev OnTowns : {T : Type 0} → (T → Lanes) → (T → List Flat) → (Lanes → Type 0) → Type 0
OnTowns {T} form rows P = (t : T) → rows t ≡ towns → P (form t)

-- the second of the rows from row 1 on
row_of_its_number : OnTowns (λ t. Part t 1 0) rc_value (λ l. lane_at l 1 ≡ PairV (NumV (pos 5)) (PairV (TextV []) (NumV (pos 6))))
row_of_its_number t is = ap (λ rows. value_of (from_column 0 (row_at rows 2))) is

not_the_row_before : OnTowns (λ t. Cells t 1 0) rc_value (λ l. lane_at l 1 ≡ NumV (pos 3) → ⊥)
not_the_row_before t is h =
    let e : NumV (pos 5) ≡ NumV (pos 3) = sym (ap (λ rows. value_of (cell_at 0 (row_at rows 2))) is) ∙ h in absurd (cc e)

rest_of_a_row : OnTowns (λ t. Part t 0 1) rc_value (λ l. lane_at l 1 ≡ PairV (TextV (codes "bc")) (NumV (pos 4)))
rest_of_a_row t is = ap (λ rows. value_of (from_column 1 (row_at rows 1))) is

cell_of_a_row : OnTowns (λ t. Cells t 0 1) rc_value (λ l. lane_at l 1 ≡ TextV (codes "bc"))
cell_of_a_row t is = ap (λ rows. value_of (cell_at 1 (row_at rows 1))) is

-- as many rows and columns as there are
three_columns : (j : ℕ) → j < 2 → 2 < columns_in (row_at towns (1 + j))
three_columns zero l = omega arith
three_columns (suc zero) l = omega arith
three_columns (suc (suc j)) l = absurd (omega (arith, l))

last_rows_are_there : AreThere towns 1 2 2
last_rows_are_there = record { rows_there = omega arith; below = omega arith; narrow = omega arith; column = three_columns }

one_row_too_many : AreThere towns 1 3 0 → ⊥
one_row_too_many h = absurd (omega (arith, h.rows_there))

one_column_too_many : AreThere towns 0 1 3 → ⊥
one_column_too_many h = absurd (omega (arith, h.column 0 (omega arith)))

-- a column of numbers, and one of texts, which has none
numbers_of_rows : (j : ℕ) → j < 2 → cell_at 2 (row_at towns (1 + j)) ≡ NumF (get_or (pos 4 ∷ pos 6 ∷ []) j (pos 0))
numbers_of_rows zero l = refl
numbers_of_rows (suc zero) l = refl
numbers_of_rows (suc (suc j)) l = absurd (omega (arith, l))

last_column : AreCells towns 1 2 2 (pos 4 ∷ pos 6 ∷ [])
last_column = record { long = refl; each = numbers_of_rows }

texts_are_no_numbers : (zs : List ℤ) → AreCells towns 0 1 1 zs → ⊥
texts_are_no_numbers zs h = absurd (cc (h.each 0 (omega arith)))

-- frames as a list, the innermost first
no_frames : frames_of End ≡ []
no_frames = refl

one_frame_more : (f : Frame) (fs : List Frame) (l : Link) → frames_of l ≡ f ∷ fs → (l ≡ End) → ⊥
one_frame_more f fs l h e = let q : [] ≡ f ∷ fs = sym (ap frames_of e) ∙ h in absurd (cc q)

-- the first of two frames is the innermost, also where both have one name
module _ (x y : Written) (γ : Env) (p : name_of x ≡ codes "r") (q : name_of y ≡ codes "s") where
  abbrev both_frames : List Frame
  both_frames = record { name = x; lanes = Same (pos 1) } ∷ record { name = y; lanes = Same (pos 2) } ∷ []

  innermost_name : find (env_at both_frames γ 0) (codes "r") ≡ Some (NumV (pos 1))
  innermost_name = ap (λ n. find (Bind n (NumV (pos 1)) (Bind (name_of y) (NumV (pos 2)) γ)) (codes "r")) p

  outer_name : find (env_at both_frames γ 0) (codes "s") ≡ Some (NumV (pos 2))
  outer_name = λ i. find (Bind (p i) (NumV (pos 1)) (Bind (q i) (NumV (pos 2)) γ)) (codes "s")

-- pairs, with either kind of brackets
pair_made : sign_value Both (NumV (pos 1)) (TextV (codes "a")) ≡ PairV (NumV (pos 1)) (TextV (codes "a"))
pair_made = refl

with_pair_made : sign_value With UnitV (NumV (pos 1)) ≡ PairV UnitV (NumV (pos 1))
with_pair_made = refl

-- sums and differences up to 2^50 and -2^50, and past them
sum_at_the_limit : sign_value Plus (NumV (pos 1125899906842623)) (NumV (pos 1)) ≡ NumV (pos 1125899906842624)
sum_at_the_limit = refl

sum_past_the_limit : sign_value Plus (NumV (pos 1125899906842624)) (NumV (pos 1)) ≡ NumV (pos 1125899906842624)
sum_past_the_limit = refl

difference : sign_value Minus (NumV (pos 3)) (NumV (pos 5)) ≡ NumV (neg_ℤ (pos 2))
difference = refl

difference_past_the_limit : sign_value Minus (NumV (neg_ℤ (pos 1125899906842624))) (NumV (pos 1)) ≡ NumV (neg_ℤ (pos 1125899906842624))
difference_past_the_limit = refl

at_most_itself : sign_value AtMost (NumV (pos 30)) (NumV (pos 30)) ≡ InlV UnitV
at_most_itself = refl

not_at_most_one_less : sign_value AtMost (NumV (pos 31)) (NumV (pos 30)) ≡ InrV UnitV
not_at_most_one_less = refl

equal_numbers : sign_value Equal (NumV (neg_ℤ (pos 7))) (NumV (neg_ℤ (pos 7))) ≡ InlV UnitV
equal_numbers = refl

opposite_numbers : sign_value Equal (NumV (pos 7)) (NumV (neg_ℤ (pos 7))) ≡ InrV UnitV
opposite_numbers = refl

equal_texts : sign_value Equal (TextV (codes "oslo")) (TextV (codes "oslo")) ≡ InlV UnitV
equal_texts = refl

longer_text : sign_value Equal (TextV (codes "oslo")) (TextV (codes "oslo ")) ≡ InrV UnitV
longer_text = refl

text_and_number : sign_value Equal (TextV (codes "7")) (NumV (pos 7)) ≡ UnitV
text_and_number = refl

signs_make_no_bags : IsSign Union → ⊥
signs_make_no_bags h = h

-- words of a pair
first_half : word_value Fst (PairV (NumV (pos 1)) UnitV) ≡ NumV (pos 1)
first_half = refl

second_half : word_value Snd (PairV (NumV (pos 1)) UnitV) ≡ UnitV
second_half = refl

lesser : word_value Least (PairV (NumV (pos 2)) (NumV (neg_ℤ (pos 3)))) ≡ NumV (neg_ℤ (pos 3))
lesser = refl

greater : word_value Greatest (PairV (NumV (pos 2)) (NumV (neg_ℤ (pos 3)))) ≡ NumV (pos 2)
greater = refl

size_is_no_word_of_pairs : IsWord Size → ⊥
size_is_no_word_of_pairs h = h

-- multiples are clamped, and bounds hold also where the lower one is the greater
multiple : times_value (neg_ℤ (pos 3)) (NumV (pos 5)) ≡ NumV (neg_ℤ (pos 15))
multiple = refl

multiple_past_the_limit : times_value (pos 2) (NumV (pos 1125899906842624)) ≡ NumV (pos 1125899906842624)
multiple_past_the_limit = refl

above_the_bounds : clip_value (pos 0) (pos 10) (NumV (pos 11)) ≡ NumV (pos 10)
above_the_bounds = refl

at_the_lower_bound : clip_value (pos 0) (pos 10) (NumV (pos 0)) ≡ NumV (pos 0)
at_the_lower_bound = refl

bounds_exchanged : clip_value (pos 10) (pos 0) (NumV (pos 5)) ≡ NumV (pos 10)
bounds_exchanged = refl

true_is_left : literal_value Inl ≡ InlV UnitV
true_is_left = refl

false_is_right : literal_value Inr ≡ InrV UnitV
false_is_right = refl

-- a row that isn't there has no lane
row_there : IsRow true (NumV (pos 7)) (Some (NumF (pos 7)))
row_there = (NumF (pos 7), refl, refl)

row_not_there : IsRow false (NumV (pos 7)) None
row_not_there = refl

another_row : IsRow true (NumV (pos 7)) (Some (NumF (pos 8))) → ⊥
another_row h = let e : NumF (pos 8) ≡ h.0 = cc h.1 in let k : NumV (pos 7) ≡ NumV (pos 8) = h.2 ∙ ap value_of (sym e) in absurd (cc k)

two_there : count_there (true ∷ false ∷ true ∷ []) ≡ pos 2
two_there = refl

each_clipped : sum_there (pos 0) (pos 10) (pos 11 ∷ pos 5 ∷ neg_ℤ (pos 4) ∷ []) (true ∷ false ∷ true ∷ []) ≡ pos 10
each_clipped = refl

three_elements : gathered Size (NumF (pos 7) ∷ NumF (pos 7) ∷ TextF [] ∷ []) ≡ pos 3
three_elements = refl

sum_of_elements : gathered (Sum (pos 0) (pos 10)) (NumF (pos 11) ∷ NumF (pos 3) ∷ []) ≡ pos 13
sum_of_elements = refl

-- `r + 1` means 8 in a row for which r stands for 7
sum_of_a_row : (s : Span) (x : Written) (γ : Env) → name_of x ≡ codes "r"
    → MeansIn 2 (env_at (record { name = x; lanes = Same (pos 7) } ∷ []) γ 0) (at s (PlusE (at s (VarE (codes "r"))) (at s (NumE (pos 1))))) (lane_at (Same (pos 8)) 0)
sum_of_a_row s x γ p = (pos 7, pos 1, ap (λ n. find (Bind n (NumV (pos 7)) γ) (codes "r")) p, refl, refl)

-- `()` alone means nothing else
unit_is_unit : (s : Span) → IsUnitTerm (at s UnitE)
unit_is_unit s γ zero v h = absurd h
unit_is_unit s γ (suc m) v h = h

number_is_no_unit : (s : Span) → IsUnitTerm (at s (NumE (pos 0))) → ⊥
number_is_no_unit s h = absurd (cc (h Empty 1 (NumV (pos 0)) refl))
