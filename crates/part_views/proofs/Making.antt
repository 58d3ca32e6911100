-- What the code makes of partitions is what views show.
use Rattle.std.proofs.Common.{◌≡◌, ◌<◌, ◌≤◌, ◌+◌, ◌∙◌, ℕ, zero, suc, Some, List, [], ◌∷◌, ◌++◌, drop, flat_map, map, length, get_or, take, refl, ap, subst, sym, arith}
use Rattle.std.specs.Prelude.{option_map, slice_get}
use Rattle.std.specs.List.{All}
use Rattle.std.proofs.lemmas.List.{drop-drop, drop_at, get_or-map, length-append, length-map, map-append, take_at, take_more}
use Rattle.std.proofs.lemmas.List.Concat.{flat_map-append}
use Rattle.std.proofs.lemmas.List.Folds.{length-flat_map-take}
use Rattle.std.proofs.lemmas.List.Elements.{All-append, All-cons, All-head, All-nil, All-tail, All-weaker}
use Rattle.std.proofs.lemmas.Option.{slice_get-get_or, slice_get-map, slice_get_within}
use Rattle.fz_ast.specs.Signature.{Signature}
use Rattle.fz_ast.specs.Types.{Ty, TensorT, TextT}
use Rattle.metric_values.specs.Cells.{AreRows, chosen_of, columns_in, row_at}
use Rattle.metric_values.specs.Tables.{Dataset, IsDataset}
use Rattle.metric_values.specs.Typed.{TypedFlat}
use Rattle.metric_values.specs.Values.{Flat, NumF, TextF, UnitF, PairF, InlF, InrF, BangF}
use Rattle.table_store.specs.Groups.{rows_with}
use Rattle.table_store.specs.Schema.{row_of_schema}
use Rattle.table_store.proofs.GroupLaws.{rows_with_chosen, rows_with_there}
use Rattle.owner_catalog.specs.Entries.{OwnerEntry, PartitionEntry, TableEntry, owner_signature, table_type_of}
use Rattle.owner_catalog.specs.Lawful.{IsOwner}
use Rattle.partition_charge.specs.declared.view.View.TheVariants.{Part}
use Rattle.part_views.specs.Divisions.{IsDivision, partition_of}
use Rattle.part_views.specs.Partitions.{HasPart, IsPartitionOf, cell_type}
use Rattle.part_views.specs.Views.{rows_in, rows_with_key, signature_in}
use Rattle.part_views.specs.declared.division.Division.{Division}
use Rattle.part_views.proofs.Lawful.{owner_partitions}
use Rattle.part_views.proofs.CutLaws.{rows_at}

-- ---- groups of rows

module _ {G : Type 0} (items : G → List ℕ) (column : ℕ) (table : List Flat) where
  pub groups_there : (groups : List G) (keys : List (List ℕ)) → map items groups ≡ map (λ key. rows_with column key table) keys
      → All (λ group. AreRows table (items group)) groups
  groups_there [] keys is = All-nil (λ group. AreRows table (items group))
  groups_there (group ∷ groups) [] is = absurd cc
  groups_there (group ∷ groups) (key ∷ keys) is =
      let first : items group ≡ rows_with column key table = cc in
      let rest : map items groups ≡ map (λ key. rows_with column key table) keys = cc in
      All-cons (λ group. AreRows table (items group)) group groups (subst (AreRows table) (sym first) (rows_with_there column key table))
      (groups_there groups keys rest)

  pub groups_chosen : (groups : List G) (keys : List (List ℕ)) → map items groups ≡ map (λ key. rows_with column key table) keys
      → map (λ group. chosen_of table (items group) ∷ []) groups ≡ map (λ key. rows_with_key column key table ∷ []) keys
  groups_chosen [] [] is = refl
  groups_chosen [] (key ∷ keys) is = absurd cc
  groups_chosen (group ∷ groups) [] is = absurd cc
  groups_chosen (group ∷ groups) (key ∷ keys) is =
      let first : items group ≡ rows_with column key table = cc in
      let rest : map items groups ≡ map (λ key. rows_with column key table) keys = cc in
      let here : chosen_of table (items group) ≡ rows_with_key column key table = ap (chosen_of table) first ∙ rows_with_chosen column key table in
      let more = groups_chosen groups keys rest in
      λ i. (here i ∷ []) ∷ more i

-- ---- groups side by side

module _ {G : Type 0} (items : G → List ℕ) (table : List Flat) where
  pub flat_there : (groups : List G) → All (λ group. AreRows table (items group)) groups → AreRows table (flat_map items groups)
  flat_there [] there = All-nil (λ i. i < length table)
  flat_there (group ∷ groups) there =
      All-append (λ i. i < length table) (items group) (flat_map items groups) (All-head (λ group. AreRows table (items group)) group groups there)
      (flat_there groups (All-tail (λ group. AreRows table (items group)) group groups there))

  pub run_within : (groups : List G) (i : ℕ) (d : G) → i < length groups
      → length (flat_map items (take i groups)) + length (items (get_or groups i d)) ≤ length (chosen_of table (flat_map items groups))
  run_within groups i d low = omega (arith, length-flat_map-take items groups i d low, length-map (flat_map items groups) (row_at table))

  pub run_is : (groups : List G) (i : ℕ) (d : G) → i < length groups
      → take (length (items (get_or groups i d))) (drop (length (flat_map items (take i groups))) (chosen_of table (flat_map items groups)))
      ≡ chosen_of table (items (get_or groups i d))
  run_is [] i d low = absurd (omega arith)
  run_is (group ∷ groups) zero d low =
      let here = chosen_of table (items group) in
      let rest = chosen_of table (flat_map items groups) in
      let n = length (items group) in
      ap (take n) (map-append (row_at table) (items group) (flat_map items groups)) ∙ take_at here rest n (length-map (items group) (row_at table))
  run_is (group ∷ groups) (suc i) d low =
      let here = chosen_of table (items group) in
      let rest = chosen_of table (flat_map items groups) in
      let n = length (items group) in
      let m = length (flat_map items (take i groups)) in
      let before : length (flat_map items (group ∷ take i groups)) ≡ n + m = length-append (items group) (flat_map items (take i groups)) in
      let left : drop (length (flat_map items (group ∷ take i groups))) (chosen_of table (flat_map items (group ∷ groups))) ≡ drop m rest =
      (λ i. drop (before i) (map-append (row_at table) (items group) (flat_map items groups) i)) ∙ sym (drop-drop m n (here ++ rest))
      ∙ ap (drop m) (drop_at here rest n (length-map (items group) (row_at table))) in
      ap (take (length (items (get_or groups i d)))) left ∙ run_is groups i d (omega arith)

  pub run_more : (groups : List G) (i : ℕ) (d : G) → i < length groups
      → length (flat_map items (take i groups)) + length (items (get_or groups i d)) ≡ length (flat_map items (take (i + 1) groups))
  run_more groups i d low =
      let group = get_or groups i d in
      let more = ap (λ (gs : List G). length (flat_map items gs)) (take_more groups i d low) in
      let apart = ap (λ (ns : List ℕ). length ns) (flat_map-append items (take i groups) (group ∷ [])) in
      omega (arith, more, apart, length-append (flat_map items (take i groups)) (items group ++ []), length-append (items group) [])

-- ---- a partition

pub some_columns : (x : Flat) → 0 < columns_in x
some_columns (PairF a b) = omega arith
some_columns (NumF z) = omega arith
some_columns (TextF s) = omega arith
some_columns UnitF = omega arith
some_columns (InlF a) = omega arith
some_columns (InrF a) = omega arith
some_columns (BangF a) = omega arith

-- a row has the column of a text cell
has_column : (row : Ty) (k : ℕ) (x : Flat) → cell_type k row ≡ TextT → TypedFlat row x → k < columns_in x
has_column row zero x is typed = some_columns x
has_column (TensorT a b) (suc k) (PairF y z) is typed = omega (arith, has_column b k z is typed.1)
has_column (TensorT a b) (suc k) x is typed = absurd typed
has_column row (suc k) x is typed = absurd cc

pub rows_have_column : (tables : Signature) (rows : Dataset) (partition : PartitionEntry) → IsPartitionOf tables partition → IsDataset tables rows
    → All (λ row. partition.column < columns_in row) (get_or rows partition.table [])
rows_have_column tables rows partition legal typed =
    All-weaker (TypedFlat legal.table.row) (λ row. partition.column < columns_in row) (λ row t. has_column legal.table.row partition.column row legal.text t)
    (get_or rows partition.table []) (rows_at tables rows partition.table legal.table typed legal.there)

-- a table's rows are of its schema's type
pub rows_of_schema : (owner : OwnerEntry) (rows : Dataset) (t : ℕ) (none : TableEntry) → IsDataset (owner_signature owner) rows → t < length owner.tables
    → All (TypedFlat (row_of_schema (get_or owner.tables t none).columns)) (get_or rows t [])
rows_of_schema owner rows t none typed low =
    rows_at (owner_signature owner) rows t (table_type_of (get_or owner.tables t none)) typed
    (slice_get-map table_type_of owner.tables t ∙ ap (option_map table_type_of) (slice_get-get_or owner.tables t none low))

pub as_many_tables : (tables : Signature) (rows : Dataset) → IsDataset tables rows → length rows ≡ length tables
as_many_tables [] [] typed = refl
as_many_tables [] (xs ∷ rows) typed = absurd typed
as_many_tables (table ∷ tables) [] typed = absurd typed
as_many_tables (table ∷ tables) (xs ∷ rows) typed = omega (arith, as_many_tables tables rows typed.1)

pub owner_partition : (owner : OwnerEntry) (p : ℕ) (default : PartitionEntry) → IsOwner owner → p < length owner.partitions
    → IsPartitionOf (owner_signature owner) (get_or owner.partitions p default)
owner_partition owner p default legal low = (owner_partitions owner legal).each p default low

pub same_partition : (partition : PartitionEntry) (name : List ℕ) (table column : ℕ) (keys : List (List ℕ)) → name ≡ partition.name
    → table ≡ partition.table → column ≡ partition.column → keys ≡ partition.keys
    → record { name = name; table = table; column = column; keys = keys } ≡ partition
same_partition partition name table column keys n t c k = λ i. record { name = n i; table = t i; column = c i; keys = k i }

-- ---- what a part shows

pub part_within : (divisions : List Division) (p j : ℕ) → HasPart (map partition_of divisions) (Part p j) → p < length divisions
part_within divisions p j there =
    let low = slice_get_within (map partition_of divisions) p there.0 there.1 in omega (arith, low, length-map divisions partition_of)

module _ (tables : Signature) (rows : Dataset) (divisions : List Division) (p j : ℕ) (division : Division)
    (divided : All (IsDivision tables rows) divisions) (there : HasPart (map partition_of divisions) (Part p j))
    (is : division ≡ get_or divisions p division) where
  legal : IsDivision tables rows division
  legal = subst (IsDivision tables rows) (sym is) (divided p division (part_within divisions p j there))

  found : slice_get (map partition_of divisions) p ≡ Some (partition_of division)
  found =
      slice_get-map partition_of divisions p
      ∙ ap (option_map partition_of) (slice_get-get_or divisions p division (part_within divisions p j there) ∙ ap Some (sym is))

  pub part_signature : division.sig ≡ signature_in tables (map partition_of divisions) (Part p j)
  unfolding signature_in
  part_signature = rw found legal.table

  keyed : j < length division.keys
  keyed =
      let same : there.0 ≡ partition_of division = cc (there.1, found) in
      let count : length there.0.keys ≡ length division.keys = ap (λ (q : PartitionEntry). length q.keys) same in
      omega (arith, there.2, count)

  pub part_made : j < length division.parts.items
  part_made =
      omega (
        arith,
        keyed,
        ap (λ (parts : List Dataset). length parts) legal.parts,
        length-map division.keys (λ key. rows_with_key division.column key (get_or rows division.table []) ∷ []),
      )

  pub part_rows_made : (default : Dataset) → get_or division.parts.items j default ≡ rows_in (map partition_of divisions) (Part p j) rows
  unfolding rows_in
  part_rows_made default =
      rw (found, slice_get-get_or division.keys j [] keyed)
      (ap (λ (parts : List Dataset). get_or parts j default) legal.parts
      ∙ get_or-map (λ key. rows_with_key division.column key (get_or rows division.table []) ∷ []) division.keys j [] default keyed)
