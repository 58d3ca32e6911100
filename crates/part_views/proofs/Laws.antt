-- Views are datasets, and parts share no row and no distance: a catalog's partition cuts its table by a column.
use Rattle.std.proofs.Common.{◌≡◌, ◌≤◌, ℕ, Option, Some, None, List, [], ◌∷◌, get_or, refl, ap, subst}
use Rattle.std.specs.Prelude.{IfSome, option_map, slice_get}
use Rattle.std.proofs.lemmas.Option.{get_or_from_slice_get, slice_get_within}
use Rattle.fz_ast.specs.Signature.{IsSignature, Signature}
use Rattle.metric_values.specs.Distances.{bag_distance}
use Rattle.metric_values.specs.Tables.{Dataset, IsDataset, apart}
use Rattle.metric_values.specs.Values.{Flat}
use Rattle.owner_catalog.specs.Entries.{PartitionEntry}
use Rattle.partition_charge.specs.Cost.{total_below}
use Rattle.partition_charge.specs.Views.{part_limit}
use Rattle.partition_charge.specs.declared.view.View.{View}
use Rattle.partition_charge.specs.declared.view.View.TheVariants.{Part, Whole}
use Rattle.part_views.specs.Cuts.{IsCutOf, by_column, cut_of, rows_of_class}
use Rattle.part_views.specs.Laws.{IsSublist, rows_of_part, PartsAreDisjoint, PartsAreNoFurtherApart, PartsAreNoFurtherThanTheirTable, PartsAreSublists, ViewsAreDatasets}
use Rattle.part_views.specs.Partitions.{ArePartitions, IsPartitionOf}
use Rattle.part_views.specs.Seen.{cut_rows, cut_table}
use Rattle.part_views.specs.Views.{divided_table, part_rows, rows_in, rows_of_key, signature_in}
use Rattle.part_views.proofs.CutLaws.{class_is_sublist, cut_apart, cut_is_dataset, cut_parts_apart, cut_shares_no_row}

-- ---- a partition as a cut

pub partition_cuts : (tables : Signature) (partition : PartitionEntry) → IsPartitionOf tables partition → IsCutOf tables (cut_of partition)
partition_cuts tables partition legal =
    record { table = legal.table; there = legal.there; class = legal.text; few = legal.few; distinct = legal.distinct }

key_is_class : (column : ℕ) (key : Option (List ℕ)) (rows : List Flat) → rows_of_key column key rows ≡ rows_of_class (by_column column) key rows
key_is_class column None rows = refl
key_is_class column (Some key) rows = refl

pub part_is_cut : (o : Option PartitionEntry) (j : ℕ) (X : Dataset) → part_rows o j X ≡ cut_rows (option_map cut_of o) j X
part_is_cut None j X = refl
part_is_cut (Some partition) j X =
    ap (λ (rows : List Flat). rows ∷ []) (key_is_class partition.column (slice_get partition.keys j) (get_or X partition.table []))

pub table_is_cut : (tables : Signature) (o : Option PartitionEntry) → divided_table tables o ≡ cut_table tables (option_map cut_of o)
table_is_cut tables None = refl
table_is_cut tables (Some partition) = refl

-- a partition of a list is one of the tables
pub partition_at : (tables : Signature) (partitions : List PartitionEntry) (p : ℕ) (partition : PartitionEntry) → ArePartitions tables partitions
    → slice_get partitions p ≡ Some partition → IsPartitionOf tables partition
partition_at tables partitions p partition legal is =
    subst (IsPartitionOf tables) (get_or_from_slice_get partitions p partition partition is)
    (legal.each p partition (slice_get_within partitions p partition is))

pub lawful_cut : (tables : Signature) (partitions : List PartitionEntry) (p : ℕ) → ArePartitions tables partitions
    → IfSome (option_map cut_of (slice_get partitions p)) (IsCutOf tables)
lawful_cut tables partitions p legal = by (slice_get partitions p) refl
  where
    by : (o : Option PartitionEntry) → slice_get partitions p ≡ o → IfSome (option_map cut_of o) (IsCutOf tables)
    by None e = tt
    by (Some partition) e = partition_cuts tables partition (partition_at tables partitions p partition legal e)

-- ---- the laws

view_is_dataset : (tables : Signature) (partitions : List PartitionEntry) (view : View) (X : Dataset) → IsSignature tables → ArePartitions tables partitions
    → IsDataset tables X
    → IsSignature (signature_in tables partitions view) × IsDataset (signature_in tables partitions view) (rows_in partitions view X)
unfolding signature_in rows_in
view_is_dataset tables partitions Whole X legal divided typed = (legal, typed)
view_is_dataset tables partitions (Part p j) X legal divided typed =
    let o = slice_get partitions p in
    rw (table_is_cut tables o, part_is_cut o j X) (cut_is_dataset tables (option_map cut_of o) j X legal (lawful_cut tables partitions p divided) typed)

pub views_are_datasets : ViewsAreDatasets
views_are_datasets = view_is_dataset

part_is_sublist : (partitions : List PartitionEntry) (p j : ℕ) (partition : PartitionEntry) (X : Dataset) → slice_get partitions p ≡ Some partition
    → IsSublist (rows_of_part partitions p j X) (get_or X partition.table [])
unfolding rows_in
part_is_sublist partitions p j partition X is =
    let key = slice_get partition.keys j in
    let all = get_or X partition.table [] in
    rw (is, key_is_class partition.column key all) (class_is_sublist (by_column partition.column) key all)

pub parts_are_sublists : PartsAreSublists
parts_are_sublists = part_is_sublist

no_row_in_two : (tables : Signature) (partitions : List PartitionEntry) (p m n a b : ℕ) (row : Flat) (X : Dataset) → ArePartitions tables partitions
    → slice_get (rows_of_part partitions p m X) a ≡ Some row → slice_get (rows_of_part partitions p n X) b ≡ Some row → m ≡ n
unfolding rows_in
no_row_in_two tables partitions p m n a b row X divided first second =
    let o = slice_get partitions p in
    cut_shares_no_row tables (option_map cut_of o) m n a b row X (lawful_cut tables partitions p divided)
    (subst (λ (rows : Dataset). slice_get (get_or rows 0 []) a ≡ Some row) (part_is_cut o m X) first)
    (subst (λ (rows : Dataset). slice_get (get_or rows 0 []) b ≡ Some row) (part_is_cut o n X) second)

pub parts_are_disjoint : PartsAreDisjoint
parts_are_disjoint = no_row_in_two

pub same_parts_apart : (n : ℕ) (o : Option PartitionEntry) (X Y : Dataset)
    → total_below n (λ j. apart (part_rows o j X) (part_rows o j Y)) ≡ total_below n (λ j. apart (cut_rows (option_map cut_of o) j X) (cut_rows (option_map cut_of o) j Y))
same_parts_apart n o X Y = λ i. total_below n (λ j. apart (part_is_cut o j X i) (part_is_cut o j Y i))

table_parts_apart : (n : ℕ) (tables : Signature) (partitions : List PartitionEntry) (p : ℕ) (partition : PartitionEntry) (X Y : Dataset) → ArePartitions tables partitions
    → slice_get partitions p ≡ Some partition
    → total_below n (λ j. apart (rows_in partitions (Part p j) X) (rows_in partitions (Part p j) Y)) ≤ bag_distance (get_or X partition.table []) (get_or Y partition.table [])
unfolding rows_in
table_parts_apart n tables partitions p partition X Y divided e =
    rw (e, same_parts_apart n (Some partition) X Y)
    (cut_parts_apart n tables (cut_of partition) X Y (partition_cuts tables partition (partition_at tables partitions p partition divided e)))

pub parts_are_no_further_than_their_table : PartsAreNoFurtherThanTheirTable
parts_are_no_further_than_their_table = table_parts_apart part_limit

parts_apart : (n : ℕ) (tables : Signature) (partitions : List PartitionEntry) (p : ℕ) (X Y : Dataset) → ArePartitions tables partitions
    → IsDataset tables X → IsDataset tables Y
    → total_below n (λ j. apart (rows_in partitions (Part p j) X) (rows_in partitions (Part p j) Y)) ≤ apart X Y
unfolding rows_in
parts_apart n tables partitions p X Y divided x y =
    rw (same_parts_apart n (slice_get partitions p) X Y)
    (cut_apart n tables (option_map cut_of (slice_get partitions p)) X Y (lawful_cut tables partitions p divided) x y)

pub parts_are_no_further_apart : PartsAreNoFurtherApart
parts_are_no_further_apart = parts_apart part_limit
