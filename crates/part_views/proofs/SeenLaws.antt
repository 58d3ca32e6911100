-- The laws of views where a partition may be made, and that the catalog's views stay what they are.
use Rattle.std.proofs.Common.{◌≡◌, ◌<◌, ◌≤◌, ◌∙◌, ℕ, Bool, true, false, Option, Some, None, List, [], ◌∷◌, cond, get_or, refl, ap, subst, sym, arith}
use Rattle.std.specs.Prelude.{IfSome, length, nat_lt, option_map, slice_get}
use Rattle.std.proofs.lemmas.Option.{slice_get-get_or, slice_get_past, slice_get_within}
use Rattle.std.proofs.lemmas.List.{get_or-map}
use Rattle.fz_ast.specs.Signature.{IsSignature, Signature}
use Rattle.metric_values.specs.Distances.{bag_distance}
use Rattle.metric_values.specs.Tables.{Dataset, IsDataset, apart}
use Rattle.metric_values.specs.Values.{Flat}
use Rattle.table_store.specs.Groups.{has_text}
use Rattle.owner_catalog.specs.Entries.{PartitionEntry}
use Rattle.partition_charge.specs.Cost.{total_below}
use Rattle.partition_charge.specs.Views.{partition_limit}
use Rattle.partition_charge.specs.declared.view.View.{View}
use Rattle.partition_charge.specs.declared.view.View.TheVariants.{Part, Whole}
use Rattle.part_views.specs.Cuts.{Cut, IsCutOf, class_of, cut_at, cut_of, rows_of_class}
use Rattle.part_views.specs.Laws.{IsSublist}
use Rattle.part_views.specs.MadeParts.{parts_by}
use Rattle.part_views.specs.Partitions.{HasPart}
use Rattle.part_views.specs.Seen.{AreCuts, IsSeen, cut_rows, rows_seen, signature_seen}
use Rattle.part_views.specs.SeenLaws.{CatalogViewsStay, MadePartsAreSeen, PartsSeenAreDisjoint, PartsSeenAreNoFurtherApart, PartsSeenAreNoFurtherThanTheirTable, PartsSeenAreOfTheirKeys, PartsSeenAreSublists, ViewsSeenAreDatasets, ViewsStayWhereNothingIsMade, rows_of_part_seen}
use Rattle.part_views.specs.Views.{alone, rows_in, signature_in}
use Rattle.part_views.proofs.CutLaws.{class_is_sublist, cut_apart, cut_is_dataset, cut_parts_apart, cut_shares_no_row, has_its_key, stands_of_class}
use Rattle.part_views.proofs.Laws.{lawful_cut, part_is_cut, table_is_cut}

-- the cut of a partition keeps what cuts keep
pub seen_cut : (tables : Signature) (partitions : List PartitionEntry) (made : Option Cut) (p : ℕ) → AreCuts tables partitions made
    → IfSome (cut_at partitions made p) (IsCutOf tables)
seen_cut tables partitions made p legal = by (nat_lt p partition_limit)
  where
    by : (b : Bool) → IfSome (cond b (option_map cut_of (slice_get partitions p)) made) (IsCutOf tables)
    by true = lawful_cut tables partitions p legal.catalog
    by false = legal.cut

pub found_cut : (tables : Signature) (partitions : List PartitionEntry) (made : Option Cut) (p : ℕ) (cut : Cut) → AreCuts tables partitions made
    → cut_at partitions made p ≡ Some cut → IsCutOf tables cut
found_cut tables partitions made p cut legal is = subst (λ (o : Option Cut). IfSome o (IsCutOf tables)) is (seen_cut tables partitions made p legal)

view_is_dataset : (tables : Signature) (partitions : List PartitionEntry) (made : Option Cut) (view : View) (X : Dataset)
    → IsSignature tables → AreCuts tables partitions made → IsDataset tables X
    → IsSignature (signature_seen tables partitions made view) × IsDataset (signature_seen tables partitions made view) (rows_seen partitions made view X)
unfolding signature_seen rows_seen
view_is_dataset tables partitions made Whole X legal cuts typed = (legal, typed)
view_is_dataset tables partitions made (Part p j) X legal cuts typed =
    cut_is_dataset tables (cut_at partitions made p) j X legal (seen_cut tables partitions made p cuts) typed

pub views_seen_are_datasets : ViewsSeenAreDatasets
views_seen_are_datasets = view_is_dataset

part_is_sublist : (partitions : List PartitionEntry) (made : Option Cut) (p j : ℕ) (cut : Cut) (X : Dataset) → cut_at partitions made p ≡ Some cut
    → IsSublist (rows_of_part_seen partitions made p j X) (get_or X cut.table [])
unfolding rows_seen
part_is_sublist partitions made p j cut X is = rw is (class_is_sublist cut.class (slice_get cut.keys j) (get_or X cut.table []))

pub parts_seen_are_sublists : PartsSeenAreSublists
parts_seen_are_sublists = part_is_sublist

row_of_key : (partitions : List PartitionEntry) (made : Option Cut) (p j a : ℕ) (cut : Cut) (row : Flat) (X : Dataset)
    → cut_at partitions made p ≡ Some cut → slice_get (rows_of_part_seen partitions made p j X) a ≡ Some row
    → (key : List ℕ) × (slice_get cut.keys j ≡ Some key) × (has_text key (class_of cut.class row) ≡ true)
unfolding rows_seen
row_of_key partitions made p j a cut row X is stands =
    let here = subst (λ (o : Option Cut). slice_get (get_or (cut_rows o j X) 0 []) a ≡ Some row) is stands in
    has_its_key cut.class (slice_get cut.keys j) row (stands_of_class cut.class (slice_get cut.keys j) (get_or X cut.table []) a row here)

pub parts_seen_are_of_their_keys : PartsSeenAreOfTheirKeys
parts_seen_are_of_their_keys = row_of_key

no_row_in_two : (tables : Signature) (partitions : List PartitionEntry) (made : Option Cut) (p m n a b : ℕ) (row : Flat) (X : Dataset)
    → AreCuts tables partitions made
    → slice_get (rows_of_part_seen partitions made p m X) a ≡ Some row → slice_get (rows_of_part_seen partitions made p n X) b ≡ Some row → m ≡ n
unfolding rows_seen
no_row_in_two tables partitions made p m n a b row X legal first second =
    cut_shares_no_row tables (cut_at partitions made p) m n a b row X (seen_cut tables partitions made p legal) first second

pub parts_seen_are_disjoint : PartsSeenAreDisjoint
parts_seen_are_disjoint = no_row_in_two

table_parts_apart : (tables : Signature) (partitions : List PartitionEntry) (made : Option Cut) (p n : ℕ) (cut : Cut) (X Y : Dataset)
    → AreCuts tables partitions made → cut_at partitions made p ≡ Some cut
    → total_below n (λ j. apart (rows_seen partitions made (Part p j) X) (rows_seen partitions made (Part p j) Y))
    ≤ bag_distance (get_or X cut.table []) (get_or Y cut.table [])
unfolding rows_seen
table_parts_apart tables partitions made p n cut X Y legal is =
    rw is (cut_parts_apart n tables cut X Y (found_cut tables partitions made p cut legal is))

pub parts_seen_are_no_further_than_their_table : PartsSeenAreNoFurtherThanTheirTable
parts_seen_are_no_further_than_their_table = table_parts_apart

parts_apart : (tables : Signature) (partitions : List PartitionEntry) (made : Option Cut) (p n : ℕ) (X Y : Dataset)
    → AreCuts tables partitions made → IsDataset tables X → IsDataset tables Y
    → total_below n (λ j. apart (rows_seen partitions made (Part p j) X) (rows_seen partitions made (Part p j) Y)) ≤ apart X Y
unfolding rows_seen
parts_apart tables partitions made p n X Y legal x y =
    cut_apart n tables (cut_at partitions made p) X Y (seen_cut tables partitions made p legal) x y

pub parts_seen_are_no_further_apart : PartsSeenAreNoFurtherApart
parts_seen_are_no_further_apart = parts_apart

-- ---- the catalog's views

-- where the cut is the catalog's, a part shows what it shows without what is made
same_part : (tables : Signature) (partitions : List PartitionEntry) (made : Option Cut) (p j : ℕ) (X : Dataset)
    → cut_at partitions made p ≡ option_map cut_of (slice_get partitions p)
    → (signature_seen tables partitions made (Part p j) ≡ signature_in tables partitions (Part p j))
    × (rows_seen partitions made (Part p j) X ≡ rows_in partitions (Part p j) X)
unfolding signature_seen signature_in rows_seen rows_in
same_part tables partitions made p j X is =
    (rw is (sym (table_is_cut tables (slice_get partitions p))), rw is (sym (part_is_cut (slice_get partitions p) j X)))

same_whole : (tables : Signature) (partitions : List PartitionEntry) (made : Option Cut) (X : Dataset)
    → (signature_seen tables partitions made Whole ≡ signature_in tables partitions Whole)
    × (rows_seen partitions made Whole X ≡ rows_in partitions Whole X)
unfolding signature_seen signature_in rows_seen rows_in
same_whole tables partitions made X = (refl, refl)

pub cut_below : (partitions : List PartitionEntry) (made : Option Cut) (p : ℕ) → p < partition_limit
    → cut_at partitions made p ≡ option_map cut_of (slice_get partitions p)
cut_below partitions made p low = let below : nat_lt p partition_limit ≡ true = grind arith in rw below refl

pub cut_past : (partitions : List PartitionEntry) (made : Option Cut) (p : ℕ) → partition_limit ≤ p → cut_at partitions made p ≡ made
cut_past partitions made p high = let past : nat_lt p partition_limit ≡ false = grind arith in rw past refl

pub catalog_views_stay : CatalogViewsStay
catalog_views_stay tables partitions made Whole X of = same_whole tables partitions made X
catalog_views_stay tables partitions made (Part p j) X of = same_part tables partitions made p j X (cut_below partitions made p of)

pub views_stay : ViewsStayWhereNothingIsMade
views_stay tables partitions Whole X few = same_whole tables partitions None X
views_stay tables partitions (Part p j) X few = by (nat_lt p partition_limit) refl
  where
    by : (b : Bool) → nat_lt p partition_limit ≡ b
        → (signature_seen tables partitions None (Part p j) ≡ signature_in tables partitions (Part p j))
        × (rows_seen partitions None (Part p j) X ≡ rows_in partitions (Part p j) X)
    by true e = same_part tables partitions None p j X (rw e refl)
    by false e =
        let high : partition_limit ≤ p = grind arith in
        let none : slice_get partitions p ≡ None = slice_get_past partitions p (omega (arith, high, few)) in
        same_part tables partitions None p j X (rw (e, none) refl)

-- what the catalog has is seen, whatever is made
pub has_part_seen : (partitions : List PartitionEntry) (made : Option Cut) (view : View) → length partitions ≤ partition_limit → HasPart partitions view
    → IsSeen partitions made view
has_part_seen partitions made Whole few there = tt
has_part_seen partitions made (Part p j) few there =
    let low : p < length partitions = slice_get_within partitions p there.0 there.1 in
    (cut_of there.0, cut_below partitions made p (omega (arith, low, few)) ∙ ap (option_map cut_of) there.1, there.2)

-- ---- made parts

made_part : (tables : Signature) (partitions : List PartitionEntry) (cut : Cut) (p j : ℕ) (X : Dataset) → partition_limit ≤ p → j < length cut.keys
    → (signature_seen tables partitions (Some cut) (Part p j) ≡ alone (slice_get tables cut.table))
    × (rows_seen partitions (Some cut) (Part p j) X ≡ get_or (parts_by cut.class cut.keys (get_or X cut.table [])) j [])
unfolding signature_seen rows_seen
made_part tables partitions cut p j X high low =
    let all = get_or X cut.table [] in
    let made = cut_past partitions (Some cut) p high in (
      rw made refl,
      rw (made, slice_get-get_or cut.keys j [] low) (sym (get_or-map (λ key. rows_of_class cut.class (Some key) all ∷ []) cut.keys j [] [] low)),
    )

pub made_parts_are_seen : MadePartsAreSeen
made_parts_are_seen = made_part
