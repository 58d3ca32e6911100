-- What is proved of views where a partition may be made.
use Rattle.std.specs.Prelude.{◌≡◌, ◌<◌, ◌≤◌, ℕ, List, [], true, get_or, length, slice_get, Option, Some, None, ⊤}
use Rattle.partition_charge.specs.declared.view.View.{View}
use Rattle.partition_charge.specs.declared.view.View.TheVariants.{Whole, Part}
use Rattle.partition_charge.specs.Cost.{total_below}
use Rattle.partition_charge.specs.Views.{partition_limit}
use Rattle.fz_ast.specs.Signature.{Signature, IsSignature}
use Rattle.metric_values.specs.Distances.{bag_distance}
use Rattle.metric_values.specs.Tables.{Dataset, IsDataset, apart}
use Rattle.metric_values.specs.Values.{Flat}
use Rattle.table_store.specs.Groups.{has_text}
use Rattle.owner_catalog.specs.Entries.{PartitionEntry}
use Rattle.part_views.specs.Cuts.{Cut, class_of, cut_at}
use Rattle.part_views.specs.Laws.{IsSublist}
use Rattle.part_views.specs.Seen.{AreCuts, rows_seen, signature_seen}
use Rattle.part_views.specs.MadeParts.{parts_by}
use Rattle.part_views.specs.Views.{alone, rows_in, signature_in}

-- a view of a dataset is a dataset of the view's tables
abbrev pub ViewsSeenAreDatasets : Type 0
ViewsSeenAreDatasets = (tables : Signature) (partitions : List PartitionEntry) (made : Option Cut) (view : View) (X : Dataset)
    → IsSignature tables → AreCuts tables partitions made → IsDataset tables X
    → IsSignature (signature_seen tables partitions made view) × IsDataset (signature_seen tables partitions made view) (rows_seen partitions made view X)

-- the rows that a part shows of its partition's table
abbrev pub rows_of_part_seen : List PartitionEntry → (made : Option Cut) → (partition part : ℕ) → Dataset → List Flat
rows_of_part_seen partitions made p j X = get_or (rows_seen partitions made (Part p j) X) 0 []

-- A part's rows are rows of its partition's table, in their order.
abbrev pub PartsSeenAreSublists : Type 0
PartsSeenAreSublists = (partitions : List PartitionEntry) (made : Option Cut) (p j : ℕ) (cut : Cut) (X : Dataset) → cut_at partitions made p ≡ Some cut
    → IsSublist (rows_of_part_seen partitions made p j X) (get_or X cut.table [])

-- The class of each row of a part is the part's key: rows of other classes are in no part.
abbrev pub PartsSeenAreOfTheirKeys : Type 0
PartsSeenAreOfTheirKeys = (partitions : List PartitionEntry) (made : Option Cut) (p j a : ℕ) (cut : Cut) (row : Flat) (X : Dataset)
    → cut_at partitions made p ≡ Some cut → slice_get (rows_of_part_seen partitions made p j X) a ≡ Some row
    → (key : List ℕ) × (slice_get cut.keys j ≡ Some key) × (has_text key (class_of cut.class row) ≡ true)

-- No row is in two parts of a partition.
abbrev pub PartsSeenAreDisjoint : Type 0
PartsSeenAreDisjoint = (tables : Signature) (partitions : List PartitionEntry) (made : Option Cut) (p m n a b : ℕ) (row : Flat) (X : Dataset)
    → AreCuts tables partitions made
    → slice_get (rows_of_part_seen partitions made p m X) a ≡ Some row → slice_get (rows_of_part_seen partitions made p n X) b ≡ Some row → m ≡ n

-- However many parts of a partition are taken, they are together no further apart than its table.
abbrev pub PartsSeenAreNoFurtherThanTheirTable : Type 0
PartsSeenAreNoFurtherThanTheirTable = (tables : Signature) (partitions : List PartitionEntry) (made : Option Cut) (p n : ℕ) (cut : Cut) (X Y : Dataset)
    → AreCuts tables partitions made → cut_at partitions made p ≡ Some cut
    → total_below n (λ j. apart (rows_seen partitions made (Part p j) X) (rows_seen partitions made (Part p j) Y))
    ≤ bag_distance (get_or X cut.table []) (get_or Y cut.table [])

-- and no further than the datasets
abbrev pub PartsSeenAreNoFurtherApart : Type 0
PartsSeenAreNoFurtherApart = (tables : Signature) (partitions : List PartitionEntry) (made : Option Cut) (p n : ℕ) (X Y : Dataset)
    → AreCuts tables partitions made → IsDataset tables X → IsDataset tables Y
    → total_below n (λ j. apart (rows_seen partitions made (Part p j) X) (rows_seen partitions made (Part p j) Y)) ≤ apart X Y

-- a view that names no partition past the catalog's
abbrev pub IsOfCatalog : View → Type 0
IsOfCatalog Whole = ⊤
IsOfCatalog (Part p j) = p < partition_limit

-- Whatever is made, the catalog's views show what they show without it.
abbrev pub CatalogViewsStay : Type 0
CatalogViewsStay = (tables : Signature) (partitions : List PartitionEntry) (made : Option Cut) (view : View) (X : Dataset) → IsOfCatalog view
    → (signature_seen tables partitions made view ≡ signature_in tables partitions view) × (rows_seen partitions made view X ≡ rows_in partitions view X)

-- Where nothing is made there are the catalog's views alone.
abbrev pub ViewsStayWhereNothingIsMade : Type 0
ViewsStayWhereNothingIsMade = (tables : Signature) (partitions : List PartitionEntry) (view : View) (X : Dataset) → length partitions ≤ partition_limit
    → (signature_seen tables partitions None view ≡ signature_in tables partitions view) × (rows_seen partitions None view X ≡ rows_in partitions view X)

-- A made partition shows the parts into which its table is divided, each as a dataset of that table alone.
abbrev pub MadePartsAreSeen : Type 0
MadePartsAreSeen = (tables : Signature) (partitions : List PartitionEntry) (cut : Cut) (p j : ℕ) (X : Dataset) → partition_limit ≤ p → j < length cut.keys
    → (signature_seen tables partitions (Some cut) (Part p j) ≡ alone (slice_get tables cut.table))
    × (rows_seen partitions (Some cut) (Part p j) X ≡ get_or (parts_by cut.class cut.keys (get_or X cut.table [])) j [])
