-- Columns of cells, the rows that columns make side by side, and what stands in a row from a column on.
use Rattle.std.specs.Prelude.{◌≡◌, ◌≤◌, ◌<◌, ◌-◌, ℕ, zero, suc, List, [], ◌∷◌, drop, length, map, take, ⊤}
use Rattle.std.specs.List.{All}
use Rattle.std.proofs.Common.{get_or}
use Rattle.metric_values.specs.Values.{Flat, NumF, TextF, UnitF, PairF, InlF, InrF, BangF}

-- texts that lie one behind the other in these bytes, from a place on, each up to its end
abbrev pub texts_from : ℕ → List ℕ → List ℕ → List (List ℕ)
texts_from start bytes [] = []
texts_from start bytes (end ∷ ends) = take (end - start) (drop start bytes) ∷ texts_from end bytes ends

-- where the text of a number begins
abbrev pub text_start : ℕ → List ℕ → ℕ → ℕ
text_start start ends zero = start
text_start start [] (suc i) = start
text_start start (end ∷ ends) (suc i) = text_start end ends i

-- ends that never fall, from a start to the whole length
abbrev pub Rise : ℕ → ℕ → List ℕ → Type 0
Rise start all [] = start ≡ all
Rise start all (end ∷ ends) = (start ≤ end) × Rise end all ends

-- each element of the one list paired with that of the other
abbrev pub paired : List Flat → List Flat → List Flat
paired (x ∷ xs) (y ∷ ys) = PairF x y ∷ paired xs ys
paired xs ys = []

-- the rows of columns side by side: the cells of one column, or pairs of a cell and the rest
abbrev pub side_by_side : List (List Flat) → List Flat
side_by_side [] = []
side_by_side (c ∷ []) = c
side_by_side (c ∷ d ∷ ds) = paired c (side_by_side (d ∷ ds))

-- columns of this length
abbrev pub AllLong : ℕ → List (List Flat) → Type 0
AllLong n [] = ⊤
AllLong n (c ∷ cs) = (length c ≡ n) × AllLong n cs

-- at least one column, and all of one length
abbrev pub AreColumns : List (List Flat) → Type 0
AreColumns [] = ⊥
AreColumns (c ∷ cs) = AllLong (length c) cs

-- the row of this number
abbrev pub row_at : List Flat → ℕ → Flat
row_at rows i = get_or rows i UnitF

-- the rows of these numbers, in their order
abbrev pub chosen_of : List Flat → List ℕ → List Flat
chosen_of rows numbers = map (row_at rows) numbers

abbrev pub AreRows : List Flat → List ℕ → Type 0
AreRows rows numbers = All (λ i. i < length rows) numbers

-- how many columns a row has
abbrev pub columns_in : Flat → ℕ
columns_in (PairF a b) = suc (columns_in b)
columns_in x = 1

-- what stands in a row from a column on
abbrev pub from_column : ℕ → Flat → Flat
from_column zero x = x
from_column (suc k) (PairF a b) = from_column k b
from_column (suc k) x = UnitF

abbrev pub first_cell : Flat → Flat
first_cell (PairF a b) = a
first_cell x = x

-- the cell of a column
abbrev pub cell_at : ℕ → Flat → Flat
cell_at k x = first_cell (from_column k x)
