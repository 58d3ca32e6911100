-- Partitions, and what their parts show, at worked tables.
use Rattle.std.proofs.Common.{◌≡◌, ◌∙◌, ℕ, List, [], ◌∷◌, refl, ap, arith}
use Rattle.std.specs.Prelude.{codes, length, pos}
use Rattle.std.specs.List.{IsDistinct}
use Rattle.fz_ast.specs.Signature.{Signature, TableType, row_of}
use Rattle.fz_ast.specs.Types.{NumT, TextT, Ty, UnitT}
use Rattle.metric_values.specs.Tables.{Dataset, apart}
use Rattle.metric_values.specs.Values.{Flat, NumF, PairF, TextF}
use Rattle.owner_catalog.specs.Entries.{PartitionEntry}
use Rattle.partition_charge.specs.Cost.{total_below}
use Rattle.partition_charge.specs.declared.view.View.TheVariants.{Part, Whole}
use Rattle.part_views.specs.Partitions.{HasPart, IsPartitionOf, cell_type}
use Rattle.part_views.specs.Views.{rows_in, signature_in}

-- people: a town, an age, a dish; and notes, each a text
abbrev person_row : Ty
person_row = row_of TextT (NumT ∷ TextT ∷ [])

abbrev tables : Signature
tables = record { name = codes "people"; row = person_row } ∷ record { name = codes "notes"; row = TextT } ∷ []

abbrev person : (town : List ℕ) (age : ℕ) (dish : List ℕ) → Flat
person town age dish = PairF (TextF town) (PairF (NumF (pos age)) (TextF dish))

abbrev ann : Flat
ann = person (codes "A") 30 (codes "soup")

abbrev bob : Flat
bob = person (codes "B") 41 (codes "soup")

abbrev eve : Flat
eve = person (codes "C") 30 (codes "rice")

abbrev held : Dataset
held = (ann ∷ bob ∷ ann ∷ eve ∷ bob ∷ []) ∷ (TextF (codes "A") ∷ TextF (codes "B") ∷ []) ∷ []

abbrev by_town : PartitionEntry
by_town = record { name = codes "town"; table = 0; column = 0; keys = codes "A" ∷ codes "B" ∷ codes "D" ∷ [] }

abbrev by_dish : PartitionEntry
by_dish = record { name = codes "dish"; table = 0; column = 2; keys = codes "rice" ∷ codes "soup" ∷ [] }

abbrev by_note : PartitionEntry
by_note = record { name = codes "note"; table = 1; column = 0; keys = codes "B" ∷ [] }

abbrev partitions : List PartitionEntry
partitions = by_town ∷ by_dish ∷ by_note ∷ []

-- ---- what is shown

whole_shows_all : rows_in partitions Whole held ≡ held
unfolding rows_in
whole_shows_all = refl

whole_has_all_tables : signature_in tables partitions Whole ≡ tables
unfolding signature_in
whole_has_all_tables = refl

-- one table alone, equal rows as often as they stand there, and no row of a town that is no key
first_town : rows_in partitions (Part 0 0) held ≡ (ann ∷ ann ∷ []) ∷ []
unfolding rows_in
first_town = refl

second_town : rows_in partitions (Part 0 1) held ≡ (bob ∷ bob ∷ []) ∷ []
unfolding rows_in
second_town = refl

part_has_one_table : signature_in tables partitions (Part 0 1) ≡ record { name = codes "people"; row = person_row } ∷ []
unfolding signature_in
part_has_one_table = refl

key_without_rows : rows_in partitions (Part 0 2) held ≡ [] ∷ []
unfolding rows_in
key_without_rows = refl

past_the_keys : rows_in partitions (Part 0 3) held ≡ [] ∷ []
unfolding rows_in
past_the_keys = refl

-- another partition of the table, by its last column, and one of the other table
dish : rows_in partitions (Part 1 1) held ≡ (ann ∷ bob ∷ ann ∷ bob ∷ []) ∷ []
unfolding rows_in
dish = refl

note : rows_in partitions (Part 2 0) held ≡ (TextF (codes "B") ∷ []) ∷ []
unfolding rows_in
note = refl

note_has_the_second_table : signature_in tables partitions (Part 2 0) ≡ record { name = codes "notes"; row = TextT } ∷ []
unfolding signature_in
note_has_the_second_table = refl

past_the_partitions : (rows_in partitions (Part 3 0) held ≡ []) × (signature_in tables partitions (Part 3 0) ≡ [])
unfolding rows_in signature_in
past_the_partitions = (refl, refl)

-- an age is no text, whatever its digits
age_is_no_key : rows_in (record { name = []; table = 0; column = 1; keys = codes "30" ∷ [] } ∷ []) (Part 0 0) held ≡ [] ∷ []
unfolding rows_in
age_is_no_key = refl

-- ---- how far parts are apart

-- one A less, and one who moved from B to a town that is no key
abbrev later : Dataset
later = (ann ∷ bob ∷ eve ∷ person (codes "C") 41 (codes "soup") ∷ []) ∷ (TextF (codes "A") ∷ TextF (codes "B") ∷ []) ∷ []

all_rows_apart : apart held later ≡ 3
all_rows_apart = refl

towns_apart : total_below 3 (λ j. apart (rows_in partitions (Part 0 j) held) (rows_in partitions (Part 0 j) later)) ≡ 2
unfolding rows_in
towns_apart = refl

dishes_apart : total_below 2 (λ j. apart (rows_in partitions (Part 1 j) held) (rows_in partitions (Part 1 j) later)) ≡ 3
unfolding rows_in
dishes_apart = refl

notes_apart : apart (rows_in partitions (Part 2 0) held) (rows_in partitions (Part 2 0) later) ≡ 0
unfolding rows_in
notes_apart = refl

-- ---- which parts there are

last_key : HasPart partitions (Part 0 2)
last_key = (by_town, refl, omega arith)

no_fourth_key : HasPart partitions (Part 0 3) → ⊥
no_fourth_key h =
    let same : by_town ≡ h.0 = cc (h.1) in
    let count = ap (λ (p : PartitionEntry). length p.keys) same in
    absurd (omega (arith, h.2, count))

no_fourth_partition : HasPart partitions (Part 3 0) → ⊥
no_fourth_partition h = absurd (cc (h.1))

-- ---- the types of cells

cells_of_people : (cell_type 0 person_row ≡ TextT) × (cell_type 1 person_row ≡ NumT) × (cell_type 2 person_row ≡ TextT)
cells_of_people = (refl, refl, refl)

past_the_columns : (cell_type 3 person_row ≡ UnitT) × (cell_type 1 TextT ≡ UnitT)
past_the_columns = (refl, refl)

cell_of_notes : cell_type 0 TextT ≡ TextT
cell_of_notes = refl

abbrev Divides : (table column : ℕ) → Type 0
Divides table column = IsPartitionOf tables (record { name = []; table = table; column = column; keys = [] })

-- numbers divide no table, nor does a column past the last
not_by_age : Divides 0 1 → ⊥
not_by_age h = let same : record { name = codes "people"; row = person_row } ≡ h.table = cc (h.there) in
    let cells : NumT ≡ TextT = ap (λ (t : TableType). cell_type 1 t.row) same ∙ h.text in absurd cc

not_past_the_columns : Divides 1 1 → ⊥
not_past_the_columns h = let same : record { name = codes "notes"; row = TextT } ≡ h.table = cc (h.there) in
    let cells : UnitT ≡ TextT = ap (λ (t : TableType). cell_type 1 t.row) same ∙ h.text in absurd cc

no_third_table : Divides 2 0 → ⊥
no_third_table h = absurd (cc (h.there))

dish_divides : IsPartitionOf tables by_dish
unfolding IsDistinct
dish_divides = record {
  table = record { name = codes "people"; row = person_row };
  there = refl;
  text = refl;
  few = omega arith;
  distinct = ((refl, tt), (tt, tt));
}

-- a key that stands twice
no_key_twice : IsPartitionOf tables (record { name = []; table = 1; column = 0; keys = codes "B" ∷ codes "A" ∷ codes "B" ∷ [] }) → ⊥
unfolding IsDistinct
no_key_twice h = absurd (cc (h.distinct.0.1.0))
