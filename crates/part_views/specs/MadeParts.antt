-- The parts of a table that is divided by its rows' classes, and the chains of row numbers that the code keeps of them.
use Rattle.std.specs.Prelude.{◌≡◌, ◌<◌, ◌≤◌, ℕ, zero, suc, List, [], ◌∷◌, All, bytes_eq, false, length, map, Option, Some, None}
use Rattle.std.specs.Coded.{Coded, coded_list}
use Rattle.std.proofs.Common.{get_or}
use Rattle.metric_values.specs.Cells.{AreRows, chosen_of}
use Rattle.metric_values.specs.Codes.{dataset_code}
use Rattle.metric_values.specs.Tables.{Dataset}
use Rattle.metric_values.specs.Values.{Flat}
use Rattle.part_views.specs.Cuts.{Class, rows_of_class}

-- for each key, in order, the rows of its class as a dataset of one table
abbrev pub parts_by : Class → (keys : List (List ℕ)) → List Flat → List Dataset
parts_by class keys rows = map (λ key. rows_of_class class (Some key) rows ∷ []) keys

-- the key of this number is the text, or no key is
abbrev pub IsNumberOf : (keys : List (List ℕ)) → (text : List ℕ) → Option ℕ → Type 0
IsNumberOf keys text (Some number) = (number < length keys) × (get_or keys number [] ≡ text)
IsNumberOf keys text None = All (λ key. bytes_eq text key ≡ false) keys

-- The row numbers of a chain: a place is one more than a row's number, and 0 is the end. Next to each row stands the place that follows it.
abbrev pub followed : (next : List ℕ) → (steps : ℕ) → (place : ℕ) → List ℕ
followed next zero place = []
followed next (suc steps) zero = []
followed next (suc steps) (suc row) = row ∷ followed next steps (get_or next row 0)

abbrev pub chain_from : (next : List ℕ) → (place : ℕ) → List ℕ
chain_from next place = followed next (length next) place

-- a chain leads through these rows to its end
abbrev pub Follows : (next : List ℕ) → (place : ℕ) → List ℕ → Type 0
Follows next place [] = place ≡ 0
Follows next place (row ∷ rows) = (place ≡ suc row) × Follows next (get_or next row 0) rows

-- the parts that chains of rows make
abbrev pub parts_chained : (rows : List Flat) → (first next : List ℕ) → List Dataset
parts_chained rows first next = map (λ place. chosen_of rows (chain_from next place) ∷ []) first

-- each chain ends, and its rows are there, each with room for what follows it
pub record AreChains (rows : List Flat) (first next : List ℕ) : Type 0 where
  pub room : length rows ≤ length next
  pub ends : All (λ place. Follows next place (chain_from next place)) first
  pub there : All (λ place. AreRows rows (chain_from next place)) first

abbrev pub parts_code : Coded (List Dataset)
parts_code = coded_list dataset_code
