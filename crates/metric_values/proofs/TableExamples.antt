-- Columns, rows and chosen rows at worked tables.
use Rattle.std.proofs.Common.{ap, arith, get_or, refl, subst, sym}
use Rattle.std.proofs.lemmas.List.Elements.{All-cons, All-nil}
use Rattle.std.specs.Arc.{arc_value}
use Rattle.std.specs.Prelude.{List, [], codes, length, map, neg_ℤ, pos, ℕ, ◌<◌, ◌∷◌, ◌≡◌}
use denote.Ref.{Bor}
use Rattle.fz_ast.specs.Signature.{row_of}
use Rattle.fz_ast.specs.Types.{NumT, TensorT, TextT}
use Rattle.metric_values.specs.Cells.{AreColumns, AreRows, Rise, cell_at, chosen_of, columns_in, from_column, row_at, side_by_side, text_start, texts_from}
use Rattle.metric_values.specs.Columns.{cells_of, element_of, rows_of_columns}
use Rattle.metric_values.specs.Rows.{AreChosen, IsNumbered, place_in, rows_of_table}
use Rattle.metric_values.specs.declared.column.Cell.TheVariants.{Number, Text}
use Rattle.metric_values.specs.declared.column.Column.{Column}
use Rattle.metric_values.specs.declared.column.Column.TheVariants.{Numbers, Texts}
use Rattle.metric_values.specs.declared.table.Rows.{Rows}
use Rattle.metric_values.specs.declared.table.Rows.TheVariants.{Whole, Chosen}
use Rattle.metric_values.specs.Limits.{columns_below, rows_below}
use Rattle.metric_values.specs.Typed.{TypedFlat}
use Rattle.metric_values.specs.Values.{Flat, NumF, PairF, TextF, UnitF}

abbrev ages : List Flat
ages = map NumF (pos 30 ∷ neg_ℤ (pos 4) ∷ pos 30 ∷ [])

abbrev towns : List Flat
towns = map TextF (codes "a" ∷ [] ∷ codes "bc" ∷ [])

-- one column: the cells themselves
one_column : side_by_side (ages ∷ []) ≡ NumF (pos 30) ∷ NumF (neg_ℤ (pos 4)) ∷ NumF (pos 30) ∷ []
one_column = refl

-- two: pairs, the first column first
two_columns : side_by_side (ages ∷ towns ∷ []) ≡ PairF (NumF (pos 30)) (TextF (codes "a")) ∷ PairF (NumF (neg_ℤ (pos 4))) (TextF []) ∷ PairF (NumF (pos 30)) (TextF (codes "bc")) ∷ []
two_columns = refl

-- three: a pair of the first cell and the pair of the others, as the type of the row
three_columns : row_at (side_by_side (ages ∷ towns ∷ ages ∷ [])) 1 ≡ PairF (NumF (neg_ℤ (pos 4))) (PairF (TextF []) (NumF (neg_ℤ (pos 4))))
three_columns = refl

nested_as_its_type : row_of NumT (TextT ∷ NumT ∷ []) ≡ TensorT NumT (TensorT TextT NumT)
nested_as_its_type = refl

typed_by_its_row : TypedFlat (row_of NumT (TextT ∷ [])) (row_at (side_by_side (ages ∷ towns ∷ [])) 1)
typed_by_its_row = ((omega arith, omega arith), omega arith)

no_rows : side_by_side ([] ∷ [] ∷ []) ≡ []
no_rows = refl

-- at least one column, and equal lengths
equal_lengths : AreColumns (ages ∷ towns ∷ [])
equal_lengths = (refl, tt)

no_columns : AreColumns [] → ⊥
no_columns h = h

unequal_lengths : AreColumns (ages ∷ (NumF (pos 1) ∷ []) ∷ []) → ⊥
unequal_lengths h = absurd (omega (arith, h.0))

-- texts, an empty one among them
three_texts : texts_from 0 (codes "abc") (1 ∷ 1 ∷ 3 ∷ []) ≡ codes "a" ∷ [] ∷ codes "bc" ∷ []
three_texts = refl

third_begins : text_start 0 (1 ∷ 1 ∷ 3 ∷ []) 2 ≡ 1
third_begins = refl

ends_rise : Rise 0 3 (1 ∷ 1 ∷ 3 ∷ [])
ends_rise = (omega arith, (omega arith, (omega arith, refl)))

ends_fall : Rise 0 3 (2 ∷ 1 ∷ 3 ∷ []) → ⊥
ends_fall h = absurd (omega (arith, h.1.0))

byte_left : Rise 0 4 (1 ∷ 3 ∷ []) → ⊥
byte_left h = absurd (omega (arith, h.1.1))

-- chosen rows, in the order of their numbers, one of them twice
rows_chosen : chosen_of ages (1 ∷ 0 ∷ 1 ∷ []) ≡ NumF (neg_ℤ (pos 4)) ∷ NumF (pos 30) ∷ NumF (neg_ℤ (pos 4)) ∷ []
rows_chosen = refl

none_chosen : chosen_of ages [] ≡ []
none_chosen = refl

-- parts of a row
three_wide : columns_in (row_at (side_by_side (ages ∷ towns ∷ ages ∷ [])) 0) ≡ 3
three_wide = refl

one_wide : columns_in (TextF (codes "a")) ≡ 1
one_wide = refl

from_second : from_column 1 (row_at (side_by_side (ages ∷ towns ∷ ages ∷ [])) 2) ≡ PairF (TextF (codes "bc")) (NumF (pos 30))
from_second = refl

second_cell : cell_at 1 (row_at (side_by_side (ages ∷ towns ∷ ages ∷ [])) 2) ≡ TextF (codes "bc")
second_cell = refl

last_cell : cell_at 2 (row_at (side_by_side (ages ∷ towns ∷ ages ∷ [])) 1) ≡ NumF (neg_ℤ (pos 4))
last_cell = refl

limits : (rows_below ≡ 4294967296) × (columns_below ≡ 65536)
limits = (refl, refl)

-- a column of texts first: towns and then ages
town_and_age : side_by_side (towns ∷ ages ∷ []) ≡ PairF (TextF (codes "a")) (NumF (pos 30)) ∷ PairF (TextF []) (NumF (neg_ℤ (pos 4))) ∷ PairF (TextF (codes "bc")) (NumF (pos 30)) ∷ []
town_and_age = refl

not_age_and_town : row_at (side_by_side (towns ∷ ages ∷ [])) 0 ≡ PairF (NumF (pos 30)) (TextF (codes "a")) → ⊥
not_age_and_town h = absurd (cc h)

typed_town_first : TypedFlat (row_of TextT (NumT ∷ [])) (row_at (side_by_side (towns ∷ ages ∷ [])) 2)
typed_town_first = (omega arith, (omega arith, omega arith))

-- past the last column and past the last row there is `()`
last_column : from_column 2 (row_at (side_by_side (ages ∷ towns ∷ ages ∷ [])) 2) ≡ NumF (pos 30)
last_column = refl

past_the_last_column : from_column 3 (row_at (side_by_side (ages ∷ towns ∷ ages ∷ [])) 2) ≡ UnitF
past_the_last_column = refl

past_the_only_column : from_column 1 (row_at ages 0) ≡ UnitF
past_the_only_column = refl

last_row : row_at ages 2 ≡ NumF (pos 30)
last_row = refl

past_the_last_row : row_at ages 3 ≡ UnitF
past_the_last_row = refl

-- the first cell of a row of one column is the row, and of one of several the first half
only_cell : cell_at 0 (row_at ages 1) ≡ NumF (neg_ℤ (pos 4))
only_cell = refl

first_cell_of_three : cell_at 0 (row_at (side_by_side (towns ∷ ages ∷ towns ∷ [])) 2) ≡ TextF (codes "bc")
first_cell_of_three = refl

not_the_whole_row : cell_at 0 (row_at (side_by_side (towns ∷ ages ∷ [])) 2) ≡ row_at (side_by_side (towns ∷ ages ∷ [])) 2 → ⊥
not_the_whole_row h = absurd (cc h)

-- numbers of rows that are there, as often and in whatever order
abbrev IsRow : ℕ → Type 0
IsRow i = i < length ages

numbers_there : AreRows ages (2 ∷ 0 ∷ 2 ∷ [])
numbers_there = All-cons IsRow 2 (0 ∷ 2 ∷ []) (omega arith) (All-cons IsRow 0 (2 ∷ []) (omega arith) (All-cons IsRow 2 [] (omega arith) (All-nil IsRow)))

none_needed : AreRows [] []
none_needed = All-nil (λ i. i < 0)

number_past_the_rows : AreRows ages (0 ∷ 3 ∷ []) → ⊥
number_past_the_rows h = let there : 3 < 3 = h 1 0 (omega arith) in absurd (omega (arith, there))

-- the code's columns and cells

abbrev HasNumbers : Column → List Flat → Type 0
HasNumbers (Numbers numbers) cells = map NumF numbers.items ≡ cells
HasNumbers (Texts texts) cells = ⊥

cells_of_texts : cells_of (Texts (codes "a" ∷ [] ∷ codes "bc" ∷ [])) ≡ towns
cells_of_texts = refl

cells_of_numbers : (age : Column) → HasNumbers age ages → cells_of age ≡ NumF (pos 30) ∷ NumF (neg_ℤ (pos 4)) ∷ NumF (pos 30) ∷ []
cells_of_numbers (Numbers numbers) h = h
cells_of_numbers (Texts texts) h = absurd h

numbers_are_no_texts : (age : Column) → HasNumbers age ages → cells_of age ≡ towns → ⊥
numbers_are_no_texts age h same = absurd (cc (cells_of_numbers age h, same))

rows_of_texts : rows_of_columns (Texts (codes "a" ∷ codes "b" ∷ []) ∷ Texts (codes "c" ∷ [] ∷ []) ∷ []) ≡ PairF (TextF (codes "a")) (TextF (codes "c")) ∷ PairF (TextF (codes "b")) (TextF []) ∷ []
rows_of_texts = refl

rows_of_town_and_age : (age : Column) → HasNumbers age ages → rows_of_columns (Texts (codes "a" ∷ [] ∷ codes "bc" ∷ []) ∷ age ∷ []) ≡ side_by_side (towns ∷ ages ∷ [])
rows_of_town_and_age age h = ap (λ cells. side_by_side (towns ∷ cells ∷ [])) (cells_of_numbers age h)

number_cell : element_of (Number (neg_ℤ (pos 4))) ≡ NumF (neg_ℤ (pos 4))
number_cell = refl

text_cell : (bytes : Bor (List ℕ)) → bytes.now ≡ codes "bc" → element_of (Text bytes) ≡ TextF (codes "bc")
text_cell bytes is = ap (λ s. TextF s) is

text_cell_is_no_number : (bytes : Bor (List ℕ)) → element_of (Text bytes) ≡ NumF (pos 0) → ⊥
text_cell_is_no_number bytes h = absurd (cc h)

-- chosen rows of the code

abbrev Chooses : Rows → List ℕ → Type 0
Chooses Whole numbers = ⊥
Chooses (Chosen chosen) numbers = (arc_value chosen).items ≡ numbers

abbrev letters : List Column
letters = Texts (codes "a" ∷ codes "b" ∷ codes "c" ∷ []) ∷ []

rows_of_the_whole : rows_of_table letters Whole ≡ TextF (codes "a") ∷ TextF (codes "b") ∷ TextF (codes "c") ∷ []
rows_of_the_whole = refl

rows_of_a_choice : (rows : Rows) → Chooses rows (2 ∷ 0 ∷ 2 ∷ []) → rows_of_table letters rows ≡ TextF (codes "c") ∷ TextF (codes "a") ∷ TextF (codes "c") ∷ []
rows_of_a_choice Whole h = absurd h
rows_of_a_choice (Chosen chosen) h = ap (chosen_of (rows_of_columns letters)) h

place_in_the_whole : place_in Whole 1 ≡ 1
place_in_the_whole = refl

place_in_a_choice : (rows : Rows) → Chooses rows (2 ∷ 0 ∷ 2 ∷ []) → (place_in rows 0 ≡ 2) × (place_in rows 1 ≡ 0) × (place_in rows 2 ≡ 2)
place_in_a_choice Whole h = absurd h
place_in_a_choice (Chosen chosen) h = (ap (λ numbers. get_or numbers 0 0) h, ap (λ numbers. get_or numbers 1 0) h, ap (λ numbers. get_or numbers 2 0) h)

not_its_own_number : (rows : Rows) → Chooses rows (2 ∷ 0 ∷ 2 ∷ []) → place_in rows 1 ≡ 1 → ⊥
not_its_own_number rows h own = absurd (omega (arith, own, (place_in_a_choice rows h).1))

any_is_numbered : IsNumbered Whole 1000000
any_is_numbered = tt

last_is_numbered : (rows : Rows) → Chooses rows (2 ∷ 0 ∷ 2 ∷ []) → IsNumbered rows 2
last_is_numbered Whole h = absurd h
last_is_numbered (Chosen chosen) h = let long : length (arc_value chosen).items ≡ 3 = ap (λ (numbers : List ℕ). length numbers) h in omega (arith, long)

not_numbered : (rows : Rows) → Chooses rows (2 ∷ 0 ∷ 2 ∷ []) → IsNumbered rows 3 → ⊥
not_numbered Whole h there = h
not_numbered (Chosen chosen) h there = let long : length (arc_value chosen).items ≡ 3 = ap (λ (numbers : List ℕ). length numbers) h in absurd (omega (arith, long, there))

whole_is_chosen : AreChosen letters Whole
whole_is_chosen = tt

chosen_are_there : (rows : Rows) → Chooses rows (2 ∷ 0 ∷ 2 ∷ []) → AreChosen letters rows
chosen_are_there Whole h = absurd h
chosen_are_there (Chosen chosen) h = subst (λ (numbers : List ℕ). AreRows (rows_of_columns letters) numbers) (sym h) numbers_there

not_chosen : (rows : Rows) → Chooses rows (0 ∷ 3 ∷ []) → AreChosen letters rows → ⊥
not_chosen Whole h there = h
not_chosen (Chosen chosen) h there = number_past_the_rows (subst (λ (numbers : List ℕ). AreRows (rows_of_columns letters) numbers) h there)
