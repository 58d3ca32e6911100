-- What is proved of views.
use Rattle.std.specs.Prelude.{◌≡◌, ◌⊎◌, ◌≤◌, ℕ, List, [], ◌∷◌, get_or, slice_get, Some, ⊤}
use Rattle.partition_charge.specs.declared.view.View.{View}
use Rattle.partition_charge.specs.declared.view.View.TheVariants.{Part}
use Rattle.partition_charge.specs.Cost.{total_below}
use Rattle.partition_charge.specs.Views.{part_limit}
use Rattle.fz_ast.specs.Signature.{Signature, IsSignature}
use Rattle.metric_values.specs.Distances.{bag_distance}
use Rattle.metric_values.specs.Tables.{Dataset, IsDataset, apart}
use Rattle.metric_values.specs.Values.{Flat}
use Rattle.owner_catalog.specs.Entries.{PartitionEntry}
use Rattle.part_views.specs.Partitions.{ArePartitions}
use Rattle.part_views.specs.Views.{signature_in, rows_in}

-- a view of a dataset is a dataset of the view's tables
abbrev pub ViewsAreDatasets : Type 0
ViewsAreDatasets = (tables : Signature) (partitions : List PartitionEntry) (view : View) (X : Dataset)
    → IsSignature tables → ArePartitions tables partitions → IsDataset tables X
    → IsSignature (signature_in tables partitions view) × IsDataset (signature_in tables partitions view) (rows_in partitions view X)

-- elements of a list, in its order
abbrev pub IsSublist : List Flat → List Flat → Type 0
IsSublist [] ys = ⊤
IsSublist (x ∷ xs) [] = ⊥
IsSublist (x ∷ xs) (y ∷ ys) = ((x ≡ y) × IsSublist xs ys) ⊎ IsSublist (x ∷ xs) ys

-- the rows that a part shows of its partition's table
abbrev pub rows_of_part : List PartitionEntry → (partition part : ℕ) → Dataset → List Flat
rows_of_part partitions p j X = get_or (rows_in partitions (Part p j) X) 0 []

-- A part's rows are rows of its partition's table, in their order.
abbrev pub PartsAreSublists : Type 0
PartsAreSublists = (partitions : List PartitionEntry) (p j : ℕ) (partition : PartitionEntry) (X : Dataset) → slice_get partitions p ≡ Some partition
    → IsSublist (rows_of_part partitions p j X) (get_or X partition.table [])

-- No row is in two parts of a partition.
abbrev pub PartsAreDisjoint : Type 0
PartsAreDisjoint = (tables : Signature) (partitions : List PartitionEntry) (p m n a b : ℕ) (row : Flat) (X : Dataset) → ArePartitions tables partitions
    → slice_get (rows_of_part partitions p m X) a ≡ Some row → slice_get (rows_of_part partitions p n X) b ≡ Some row → m ≡ n

-- The parts of a partition are together no further apart than its table.
abbrev pub PartsAreNoFurtherThanTheirTable : Type 0
PartsAreNoFurtherThanTheirTable = (tables : Signature) (partitions : List PartitionEntry) (p : ℕ) (partition : PartitionEntry) (X Y : Dataset)
    → ArePartitions tables partitions → slice_get partitions p ≡ Some partition
    → total_below part_limit (λ j. apart (rows_in partitions (Part p j) X) (rows_in partitions (Part p j) Y))
    ≤ bag_distance (get_or X partition.table []) (get_or Y partition.table [])

-- The parts of a partition are together no further apart than the datasets.
abbrev pub PartsAreNoFurtherApart : Type 0
PartsAreNoFurtherApart = (tables : Signature) (partitions : List PartitionEntry) (p : ℕ) (X Y : Dataset)
    → ArePartitions tables partitions → IsDataset tables X → IsDataset tables Y
    → total_below part_limit (λ j. apart (rows_in partitions (Part p j) X) (rows_in partitions (Part p j) Y)) ≤ apart X Y
