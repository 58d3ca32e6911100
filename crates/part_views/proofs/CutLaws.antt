-- A cut table: its parts are datasets, and share no row and no distance.
use Rattle.std.proofs.Common.{◌≡◌, ◌≤◌, ℕ, zero, suc, Bool, true, false, Option, Some, None, List, [], ◌∷◌, get_or, refl, subst, sym, arith}
use Rattle.std.specs.Prelude.{IfSome, filter, slice_get}
use Rattle.std.specs.List.{All}
use Rattle.std.proofs.lemmas.List.Elements.{All-filter, All-same, filter_passes}
use Rattle.std.proofs.lemmas.Option.{get_or_from_slice_get, slice_get_within}
use Rattle.fz_ast.specs.Signature.{IsSignature, Signature, TableType}
use Rattle.metric_values.specs.Distances.{bag_distance}
use Rattle.metric_values.specs.Tables.{Dataset, IsDataset, apart}
use Rattle.metric_values.specs.Typed.{TypedFlat}
use Rattle.metric_values.specs.Values.{Flat}
use Rattle.partition_charge.specs.Cost.{total_below}
use mathlib.Core.Logic.{inl, inr}
use Rattle.table_store.specs.Groups.{has_text}
use Rattle.part_views.specs.Cuts.{Class, Cut, IsCutOf, class_of, rows_of_class}
use Rattle.part_views.specs.Laws.{IsSublist}
use Rattle.part_views.specs.Seen.{cut_rows, cut_table}
use Rattle.part_views.specs.Views.{alone}
use Rattle.part_views.proofs.Differences.{together, total-le, total-zero}
use Rattle.part_views.proofs.Rows.{of_class, one_key, rows_of_class_pass}

-- a table of a signature is a signature alone
pub signature_at : (tables : Signature) (t : ℕ) (table : TableType) → IsSignature tables → slice_get tables t ≡ Some table → IsSignature (table ∷ [])
signature_at [] t table legal is = absurd cc
signature_at (first ∷ tables) zero table legal is =
    let same : first ≡ table = cc in
    subst (λ (one : TableType). IsSignature (one ∷ [])) same (legal.0, tt, legal.2, legal.3, legal.4, tt)
signature_at (first ∷ tables) (suc t) table legal is = signature_at tables t table legal.5 is

-- a table's rows are of its type
pub rows_at : (tables : Signature) (X : Dataset) (t : ℕ) (table : TableType) → IsDataset tables X → slice_get tables t ≡ Some table
    → All (TypedFlat table.row) (get_or X t [])
rows_at [] X t table typed is = absurd cc
rows_at (first ∷ tables) [] t table typed is = absurd typed
rows_at (first ∷ tables) (rows ∷ X) zero table typed is =
    let same : first ≡ table = cc in subst (λ (one : TableType). All (TypedFlat one.row) rows) same typed.0
rows_at (first ∷ tables) (rows ∷ X) (suc t) table typed is = rows_at tables X t table typed.1 is

pub cut_is_dataset : (tables : Signature) (o : Option Cut) (j : ℕ) (X : Dataset) → IsSignature tables → IfSome o (IsCutOf tables) → IsDataset tables X
    → IsSignature (cut_table tables o) × IsDataset (cut_table tables o) (cut_rows o j X)
cut_is_dataset tables None j X legal good typed = (tt, tt)
cut_is_dataset tables (Some cut) j X legal good typed =
    let all = get_or X cut.table [] in
    let key = slice_get cut.keys j in
    let rows : All (TypedFlat good.table.row) (rows_of_class cut.class key all) =
    All-same (TypedFlat good.table.row) (rows_of_class cut.class key all) (filter (of_class cut.class key) all) (rows_of_class_pass cut.class key all)
    (All-filter (of_class cut.class key) (TypedFlat good.table.row) all (rows_at tables X cut.table good.table typed good.there)) in
    subst (λ (o : Option TableType). IsSignature (alone o) × IsDataset (alone o) (cut_rows (Some cut) j X)) (sym good.there)
    (signature_at tables cut.table good.table legal good.there, (rows, tt))

-- one row more may be left out
one_more : (x : Flat) (zs xs : List Flat) → IsSublist zs xs → IsSublist zs (x ∷ xs)
one_more x [] xs h = tt
one_more x (z ∷ zs) xs h = inr h

kept_or_left : (test : Flat → Bool) (x : Flat) (xs : List Flat) (b : Bool) → test x ≡ b → IsSublist (filter test xs) xs → IsSublist (filter test (x ∷ xs)) (x ∷ xs)
kept_or_left test x xs true e rest = rw e (inl (refl, rest))
kept_or_left test x xs false e rest = rw e (one_more x (filter test xs) xs rest)

filter_sublist : (test : Flat → Bool) (xs : List Flat) → IsSublist (filter test xs) xs
filter_sublist test [] = tt
filter_sublist test (x ∷ xs) = kept_or_left test x xs (test x) refl (filter_sublist test xs)

pub class_is_sublist : (class : Class) (key : Option (List ℕ)) (all : List Flat) → IsSublist (rows_of_class class key all) all
class_is_sublist class key all =
    subst (λ (rows : List Flat). IsSublist rows all) (sym (rows_of_class_pass class key all)) (filter_sublist (of_class class key) all)

-- a row that stands in a part is of its key
pub stands_of_class : (class : Class) (key : Option (List ℕ)) (all : List Flat) (a : ℕ) (row : Flat) → slice_get (rows_of_class class key all) a ≡ Some row
    → of_class class key row ≡ true
stands_of_class class key all a row is =
    let stands : slice_get (filter (of_class class key) all) a ≡ Some row =
    subst (λ (rows : List Flat). slice_get rows a ≡ Some row) (rows_of_class_pass class key all) is in
    subst (λ (x : Flat). of_class class key x ≡ true) (get_or_from_slice_get (filter (of_class class key) all) a row row stands)
    (filter_passes (of_class class key) all a row (slice_get_within (filter (of_class class key) all) a row stands))

pub has_its_key : (class : Class) (key : Option (List ℕ)) (row : Flat) → of_class class key row ≡ true
    → (k : List ℕ) × (key ≡ Some k) × (has_text k (class_of class row) ≡ true)
has_its_key class None row h = absurd cc
has_its_key class (Some k) row h = (k, refl, h)

pub cut_shares_no_row : (tables : Signature) (o : Option Cut) (m n a b : ℕ) (row : Flat) (X : Dataset) → IfSome o (IsCutOf tables)
    → slice_get (get_or (cut_rows o m X) 0 []) a ≡ Some row → slice_get (get_or (cut_rows o n X) 0 []) b ≡ Some row → m ≡ n
cut_shares_no_row tables None m n a b row X good first second = absurd cc
cut_shares_no_row tables (Some cut) m n a b row X good first second =
    let all = get_or X cut.table [] in
    one_key cut.keys cut.class good.distinct m n row
    (stands_of_class cut.class (slice_get cut.keys m) all a row first)
    (stands_of_class cut.class (slice_get cut.keys n) all b row second)

-- one table is no further apart than all
table_apart : (tables : Signature) (X Y : Dataset) (t : ℕ) → IsDataset tables X → IsDataset tables Y → bag_distance (get_or X t []) (get_or Y t []) ≤ apart X Y
table_apart [] [] [] t x y = omega arith
table_apart [] [] (ys ∷ Y) t x y = absurd y
table_apart [] (xs ∷ X) Y t x y = absurd x
table_apart (table ∷ tables) [] Y t x y = absurd x
table_apart (table ∷ tables) (xs ∷ X) [] t x y = absurd y
table_apart (table ∷ tables) (xs ∷ X) (ys ∷ Y) zero x y = omega arith
table_apart (table ∷ tables) (xs ∷ X) (ys ∷ Y) (suc t) x y = omega (arith, table_apart tables X Y t x.1 y.1)

pub cut_parts_apart : (n : ℕ) (tables : Signature) (cut : Cut) (X Y : Dataset) → IsCutOf tables cut
    → total_below n (λ j. apart (cut_rows (Some cut) j X) (cut_rows (Some cut) j Y)) ≤ bag_distance (get_or X cut.table []) (get_or Y cut.table [])
cut_parts_apart n tables cut X Y good =
    let xs = get_or X cut.table [] in
    let ys = get_or Y cut.table [] in
    let test : ℕ → Flat → Bool = λ j. of_class cut.class (slice_get cut.keys j) in
    let each : (j : ℕ) → apart (cut_rows (Some cut) j X) (cut_rows (Some cut) j Y) ≤ bag_distance (filter (test j) xs) (filter (test j) ys) =
    λ j. rw (← rows_of_class_pass cut.class (slice_get cut.keys j) xs, ← rows_of_class_pass cut.class (slice_get cut.keys j) ys) (omega arith) in
    omega (
      arith,
      together n test (one_key cut.keys cut.class good.distinct) xs ys,
      total-le n (λ j. apart (cut_rows (Some cut) j X) (cut_rows (Some cut) j Y)) (λ j. bag_distance (filter (test j) xs) (filter (test j) ys)) each,
    )

pub cut_apart : (n : ℕ) (tables : Signature) (o : Option Cut) (X Y : Dataset) → IfSome o (IsCutOf tables) → IsDataset tables X → IsDataset tables Y
    → total_below n (λ j. apart (cut_rows o j X) (cut_rows o j Y)) ≤ apart X Y
cut_apart n tables None X Y good x y = omega (arith, total-zero n)
cut_apart n tables (Some cut) X Y good x y = omega (arith, table_apart tables X Y cut.table x y, cut_parts_apart n tables cut X Y good)
