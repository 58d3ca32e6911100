-- A dataset: for each table of a signature, in order, the list of its rows.
use Rattle.std.specs.List.Sorted.{IsPermutation}
use Rattle.std.specs.Prelude.{All, List, [], ℕ, ◌+◌, ◌∷◌, ⊤}
use Rattle.fz_ast.specs.Signature.{Signature}
use Rattle.metric_values.specs.Distances.{bag_distance}
use Rattle.metric_values.specs.Typed.{TypedFlat}
use Rattle.metric_values.specs.Values.{BagV, Bind, Empty, Env, Flat}

abbrev pub Dataset : Type 0
Dataset = List (List Flat)

-- the dataset has rows of each table's type
abbrev pub IsDataset : Signature → Dataset → Type 0
IsDataset [] [] = ⊤
IsDataset (t ∷ ts) (xs ∷ X) = All (TypedFlat t.row) xs × IsDataset ts X
IsDataset ts X = ⊥

-- how far two datasets are apart: the sum over the tables
abbrev pub apart : Dataset → Dataset → ℕ
apart (xs ∷ X) (ys ∷ Y) = bag_distance xs ys + apart X Y
apart X Y = 0

-- the same rows in each table, in whatever order
abbrev pub SameRows : Dataset → Dataset → Type 0
SameRows [] [] = ⊤
SameRows (xs ∷ X) (ys ∷ Y) = IsPermutation xs ys × SameRows X Y
SameRows X Y = ⊥

-- each table's name stands for its rows
abbrev pub rows_of : Signature → Dataset → Env
rows_of (t ∷ ts) (xs ∷ X) = Bind t.name (BagV xs) (rows_of ts X)
rows_of ts X = Empty
