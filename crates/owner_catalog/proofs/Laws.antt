-- What is read keeps the rules of a catalog.
use Rattle.std.proofs.Common.{◌≡◌, ◌≤◌, ◌<◌, ◌+◌, ◌^◌, ◌&&◌, ◌||◌, ℕ, Bool, true, false, List, [], ◌∷◌, ◌++◌, map, length, length-append, position, get_or, nat_le, nat_lt, zero, suc, cond, if◌then◌else◌, Option, Some, None, option_and_then, option_map, Result, Ok, Err, bytes_eq, refl, sym, ap, subst, arith, true≢false}
use Rattle.std.specs.List.{All, list_any, IsDistinct, position_or_len}
use Rattle.std.proofs.lemmas.Option.{slice_get-get_or}
use Rattle.std.proofs.lemmas.Bool.{leb-true, ltb-true}
use Rattle.std.proofs.lemmas.Slice.Eq.{bytes_eq-Decides}
use Rattle.std.proofs.lemmas.List.Elements.{All-nil, All-push}
use Rattle.serde_json.specs.Data.{Data}
use Rattle.partition_charge.specs.Views.{part_limit}
use Rattle.fz_ast.specs.declared.row.Column.{Column}
use Rattle.fz_ast.specs.declared.row.Column.TheVariants.{Num, Text}
use Rattle.table_store.specs.Schema.{NamedColumn, column_name}
use Rattle.owner_catalog.specs.declared.fault.CatalogFault.{CatalogFault}
use Rattle.owner_catalog.specs.declared.fault.FaultKind.{FaultKind}
use Rattle.owner_catalog.specs.declared.fault.FaultKind.TheVariants.{Kind, Form, Range, Count, Double, NoSuch}
use Rattle.owner_catalog.specs.declared.fault.CatalogFault.TheVariants.{Bad}
use Rattle.owner_catalog.specs.declared.fault.Member.TheVariants as at
use Rattle.owner_catalog.specs.declared.fault.Place.{Place}
use Rattle.owner_catalog.specs.declared.reading.Labels.TheVariants.{Analysts, Keys}
use Rattle.serde_json.specs.Find.{as_array, as_number, as_str, as_u64, get}
use Rattle.owner_catalog.specs.Limits.{owner_limit}
use Rattle.owner_catalog.specs.Members.{catalog_members, owner_members, table_members, column_members, partition_members, limit_members, member_name}
use Rattle.owner_catalog.specs.Entries.{TableEntry, PartitionEntry, LimitEntry, OwnerEntry, Catalog, table_name, table_columns}
use Rattle.owner_catalog.specs.Entries.{partition_name, limit_analyst, owner_name}
use Rattle.owner_catalog.specs.Forms.{is_catalog_name, is_table_name, is_file_name, is_key}
use Rattle.owner_catalog.specs.Fault.{◌>>=◌, bad, or_bad, formed_text_in, bounded_number_in, object_in, data_of, counted_in, items_from, list_in, optional_in, place, the}
use Rattle.owner_catalog.specs.Catalog.{catalog_in_file, catalog_in, json_in, owner_in, limit_in, partition_in, table_in, column_in, kind_in, label_in, label_place, one_in, is_text_column}
use Rattle.owner_catalog.specs.Lawful.{HasName, IsCatalogName, IsKey, IsTableEntry, IsPartition, IsLimit, IsOwner, HasLimitsFor, IsCatalog}
use Rattle.owner_catalog.proofs.Lists.{distinct_none, distinct_more}

-- both parts of a chain went well
pub went_well : {A B P : Type 0} (r : Result A CatalogFault) (k : A → Result B CatalogFault) (y : B) → (r >>= k) ≡ Ok y
    → ((x : A) → r ≡ Ok x → k x ≡ Ok y → P) → P
went_well (Err fault) k y is so = absurd cc
went_well (Ok x) k y is so = so x refl is

abbrev well : {A : Type 0} → A → Result A CatalogFault
well x = Ok x

same_ok : {A : Type 0} (x y : A) → well x ≡ Ok y → x ≡ y
same_ok x y is = cc

chosen : {A : Type 0} (b : Bool) (x y : A) (fault : CatalogFault) → (if b then Ok x else Err fault) ≡ Ok y → (b ≡ true) × (x ≡ y)
chosen true x y fault is = (refl, cc)
chosen false x y fault is = absurd cc

text_ok : (form : List ℕ → Bool) (at : Place) (d : Data) (s : List ℕ) → formed_text_in form at d ≡ Ok s → form s ≡ true
unfolding formed_text_in
text_ok form at d s is = went_well (or_bad Kind at (as_str d)) _ s is
    (λ text found next. let h = chosen (form text) text s (Bad Form at) next in subst (λ t. form t ≡ true) h.1 h.0)

pub both_true : (a b : Bool) → (a && b) ≡ true → (a ≡ true) × (b ≡ true)
both_true true b h = (refl, h)
both_true false b h = absurd (true≢false (sym h))

within : (least most n : ℕ) → (nat_le least n && nat_le n most) ≡ true → (least ≤ n) × (n ≤ most)
within least most n h = let b = both_true _ _ h in (leb-true _ _ b.0, leb-true _ _ b.1)

number_ok : (least most : ℕ) (at : Place) (d : Data) (n : ℕ) → bounded_number_in least most at d ≡ Ok n → (least ≤ n) × (n ≤ most)
unfolding bounded_number_in
number_ok least most at d n is = went_well (or_bad Kind at (option_and_then as_u64 (as_number d))) _ n is
    (λ m found next. let h = chosen (nat_le least m && nat_le m most) m n (Bad Range at) next in
    subst (λ k. (least ≤ k) × (k ≤ most)) h.1 (within least most m h.0))

counted_within : (least most : ℕ) (whole : Place) (d : Data) (ds : List Data) → counted_in least most whole d ≡ Ok ds → (least ≤ length ds) × (length ds ≤ most)
unfolding counted_in
counted_within least most whole d ds is = went_well (or_bad Kind whole (option_map data_of (as_array d))) _ ds is (λ items found next.
    let h = chosen (nat_le least (length items) && nat_le (length items) most) items ds (Bad Count whole) next in
    subst (λ es. (least ≤ length es) × (length es ≤ most)) h.1 (within least most (length items) h.0))

map-id : {A : Type 0} (xs : List A) → map (λ x. x) xs ≡ xs
map-id [] = refl
map-id (x ∷ xs) = ap (λ ys. x ∷ ys) (map-id xs)

no_column : NamedColumn
no_column = record { name = []; kind = Num }

no_table : TableEntry
no_table = record { name = []; file = []; columns = [] }

module _ {A : Type 0} (name : A → List ℕ) (at : ℕ → Place) (read : ℕ → Data → Result A CatalogFault) (P : A → Type 0)
    (keeps : (n : ℕ) (d : Data) (x : A) → read n d ≡ Ok x → P x) where
  -- what was read of some items keeps what each of them does
  pub record AreItems (xs : List A) (count : ℕ) : Type 0 where
    pub each : All P xs
    pub distinct : IsDistinct bytes_eq (map name xs)
    pub size : length xs ≡ count

  turn_ok : (before xs : List A) (x : A) (ds : List Data) (n : ℕ) (b : Bool) → list_any (λ y. bytes_eq (name x) (name y)) before ≡ b
      → (if b then bad Double (at (length before)) else items_from name at read (before ++ x ∷ []) ds) ≡ Ok xs
      → (list_any (λ y. bytes_eq (name x) (name y)) before ≡ false → items_from name at read (before ++ x ∷ []) ds ≡ Ok xs → AreItems xs n) → AreItems xs n
  turn_ok before xs x ds n true e is so = absurd cc
  turn_ok before xs x ds n false e is so = so e is

  resized : (xs : List A) (m n : ℕ) → m ≡ n → AreItems xs m → AreItems xs n
  resized xs m n e h = subst (AreItems xs) e h

  items_ok : (ds : List Data) (before xs : List A) → All P before → IsDistinct bytes_eq (map name before) → items_from name at read before ds ≡ Ok xs
      → AreItems xs (length before + length ds)
  unfolding items_from
  items_ok [] before xs each distinct is =
      subst (λ ys. AreItems ys (length before + 0)) (same_ok before xs is) (record { each = each; distinct = distinct; size = omega arith })
  items_ok (d ∷ ds) before xs each distinct is = went_well (read (length before) d) _ xs is (λ x reads next.
      turn_ok before xs x ds _ _ refl next (λ other more.
      resized xs _ _ (omega (arith, length-append before (x ∷ [])))
      (items_ok ds (before ++ x ∷ []) xs (All-push P before x each (keeps _ _ x reads)) (distinct_more name before x distinct other) more)))

  pub list_ok : (least most : ℕ) (whole : Place) (d : Data) (xs : List A) → list_in least most whole name at read d ≡ Ok xs
      → (least ≤ length xs) × (length xs ≤ most) × All P xs × IsDistinct bytes_eq (map name xs)
  unfolding list_in
  list_ok least most whole d xs is = went_well (counted_in least most whole d) _ xs is (λ ds counts next.
      let n = counted_within least most whole d ds counts in
      let r = items_ok ds [] xs (All-nil P) (distinct_none _) next in
      (omega (arith, r.size), omega (arith, r.size), r.each, r.distinct))

column_ok : (o t c : ℕ) (d : Data) (x : NamedColumn) → column_in o t c d ≡ Ok x → HasName x
unfolding column_in
column_ok o t c d x is =
    went_well (object_in column_members at.Column (λ m. place m o t c) d) _ x is (λ _ _ is.
    went_well (formed_text_in is_catalog_name (place at.ColumnName o t c) (the at.ColumnName d)) _ x is (λ name named is.
    went_well (kind_in (place at.ColumnType o t c) (the at.ColumnType d)) _ x is (λ kind _ is.
    subst HasName (same_ok _ x is) (text_ok is_catalog_name _ _ name named))))

table_ok : (o t : ℕ) (d : Data) (x : TableEntry) → table_in o t d ≡ Ok x → IsTableEntry x
unfolding table_in
table_ok o t d x is =
    went_well (object_in table_members at.Table (λ m. place m o t 0) d) _ x is (λ _ _ is.
    went_well (formed_text_in is_table_name (place at.TableName o t 0) (the at.TableName d)) _ x is (λ name named is.
    went_well (formed_text_in is_file_name (place at.File o t 0) (the at.File d)) _ x is (λ file filed is.
    went_well (list_in 1 16 (place at.Columns o t 0) column_name (λ c. place at.Column o t c) (column_in o t) (the at.Columns d)) _ x is (λ columns listed is.
    let all = list_ok column_name _ _ HasName (column_ok o t) _ _ _ _ columns listed in
    subst IsTableEntry (same_ok _ x is) (record {
      name = text_ok is_table_name _ _ name named;
      file = text_ok is_file_name _ _ file filed;
      columns = record { some = all.0; few = all.1; distinct = all.3 };
      names = all.2;
    })))))

-- the first that passes passes
first_passes : {A : Type 0} (p : A → Bool) (xs : List A) (d : A) → position_or_len p xs < length xs → p (get_or xs (position_or_len p xs) d) ≡ true
first_passes p [] d low = absurd (omega arith)
first_passes p (x ∷ xs) d low = by (p x) refl low (first_passes p xs d)
  where
    by : (b : Bool) → p x ≡ b → position_or_len p (x ∷ xs) < length (x ∷ xs)
        → (position_or_len p xs < length xs → p (get_or xs (position_or_len p xs) d) ≡ true)
        → p (get_or (x ∷ xs) (position_or_len p (x ∷ xs)) d) ≡ true
    by true e low rest = rw e e
    by false e low rest =
        let low_here : 1 + position_or_len p xs < length (x ∷ xs) = rw e at low in
        let next : suc (position_or_len p xs) ≡ 1 + position_or_len p xs = omega arith in
        rw e (subst (λ n. p (get_or (x ∷ xs) n d) ≡ true) next (rest (omega arith)))

found_at : {A : Type 0} (p : A → Bool) (xs : List A) (n : ℕ) (d : A) → position p xs ≡ Some n → (n < length xs) × (p (get_or xs n d) ≡ true)
found_at p xs n d is = by (nat_lt (position_or_len p xs) (length xs)) refl is
  where
    by : (b : Bool) → nat_lt (position_or_len p xs) (length xs) ≡ b → cond b (Some (position_or_len p xs)) None ≡ Some n
        → (n < length xs) × (p (get_or xs n d) ≡ true)
    by true e is =
        let here : position_or_len p xs ≡ n = cc in
        let low = ltb-true _ _ e in
        subst (λ k. (k < length xs) × (p (get_or xs k d) ≡ true)) here (low, first_passes p xs d low)
    by false e is = absurd cc

found_or_bad : {A : Type 0} (what : FaultKind) (at : Place) (o : Option A) (x : A) → or_bad what at o ≡ Ok x → o ≡ Some x
found_or_bad what at None x is = absurd cc
found_or_bad what at (Some y) x is = cc

one_ok : {A : Type 0} (passes : List ℕ → A → Bool) (all : List A) (at : Place) (d : Data) (n : ℕ) (x : A) → one_in passes all at d ≡ Ok n
    → (n < length all) × ((text : List ℕ) × (passes text (get_or all n x) ≡ true))
unfolding one_in
one_ok passes all at d n x is = went_well (or_bad Kind at (as_str d)) _ n is (λ text found next.
    let h = found_at (passes text) all n x (found_or_bad NoSuch at _ n next) in
    (h.0, (text, h.1)))

is_text_kind : (kind : Column) → is_text_column kind ≡ true → kind ≡ Text
is_text_kind Num h = absurd (true≢false (sym h))
is_text_kind Text h = refl

partition_ok : (o : ℕ) (tables : List TableEntry) (p : ℕ) (d : Data) (x : PartitionEntry) → partition_in o tables p d ≡ Ok x → IsPartition tables x
unfolding partition_in
partition_ok o tables p d x is =
    went_well (object_in partition_members at.Partition (λ m. place m o p 0) d) _ x is (λ _ _ is.
    went_well (formed_text_in is_catalog_name (place at.PartitionName o p 0) (the at.PartitionName d)) _ x is (λ name named is.
    went_well (one_in (λ text t. bytes_eq text t.name) tables (place at.PartitionTable o p 0) (the at.PartitionTable d)) _ x is (λ table tabled is.
    went_well (one_in (λ text c. bytes_eq text c.name && is_text_column c.kind) (get_or (map table_columns tables) table [])
    (place at.PartitionColumn o p 0) (the at.PartitionColumn d)) _ x is (λ column columned is.
    went_well (list_in 1 part_limit (place at.Keys o p 0) (λ key. key) (label_place (Keys o p)) (label_in (Keys o p)) (the at.Keys d)) _ x is (λ keys listed is.
    let all = list_ok (λ key. key) (label_place (Keys o p)) (label_in (Keys o p)) IsKey (λ k d s reads. text_ok is_key
    (place at.Key o p k) d s reads) _ _ _ _ keys listed in
    let found = one_ok (λ text t. bytes_eq text t.name) tables _ _ table no_table tabled in
    let there = one_ok (λ text c. bytes_eq text c.name && is_text_column c.kind) (get_or (map table_columns tables) table []) _ _ column no_column columned in
    subst (IsPartition tables) (same_ok _ x is) (record {
      name = text_ok is_catalog_name _ _ name named;
      table = found.0;
      column = get_or (get_or (map table_columns tables) table []) column no_column;
      there = slice_get-get_or _ column no_column there.0;
      text = is_text_kind _ ((both_true _ _ there.1.1).1);
      some = all.0;
      few = all.1;
      keys = all.2;
      distinct = rw (map-id keys) at all.3;
    }))))))

or_true : (a b : Bool) → b ≡ true → (a || b) ≡ true
or_true true b h = refl
or_true false b h = h

-- what stands in a list is one of it
is_in : (names : List (List ℕ)) (n : ℕ) → n < length names → list_any (bytes_eq (get_or names n [])) names ≡ true
is_in [] n low = absurd (omega arith)
is_in (name ∷ names) zero low = rw ((bytes_eq-Decides name name).1 refl) refl
is_in (name ∷ names) (suc n) low = or_true _ _ (is_in names n (omega arith))

-- a limit that keeps the rules, for one of some analysts
abbrev IsLimitFor : (analysts : List (List ℕ)) → LimitEntry → Type 0
IsLimitFor analysts limit = IsLimit limit × (list_any (bytes_eq limit.analyst) analysts ≡ true)

limit_ok : (o : ℕ) (analysts : List (List ℕ)) (l : ℕ) (d : Data) (x : LimitEntry) → limit_in o analysts l d ≡ Ok x → IsLimitFor analysts x
unfolding limit_in
limit_ok o analysts l d x is =
    went_well (object_in limit_members at.Limit (λ m. place m o l 0) d) _ x is (λ _ _ is.
    went_well (one_in bytes_eq analysts (place at.LimitAnalyst o l 0) (the at.LimitAnalyst d)) _ x is (λ analyst found is.
    went_well (bounded_number_in 1 (10 ^ 18) (place at.LimitBudget o l 0) (the at.LimitBudget d)) _ x is (λ budget budgeted is.
    let money = number_ok _ _ _ _ budget budgeted in
    let there = one_ok bytes_eq analysts _ _ analyst [] found in
    subst (IsLimitFor analysts) (same_ok _ x is) (record { least = money.0; most = money.1 }, is_in analysts analyst there.0))))

limits_ok : (o : ℕ) (analysts : List (List ℕ)) (there : Option Data) (xs : List LimitEntry)
    → optional_in [] (list_in 0 64 (place at.Limits o 0 0) limit_analyst (λ l. place at.Limit o l 0) (limit_in o analysts)) there ≡ Ok xs
    → (length xs ≤ 64) × All (IsLimitFor analysts) xs × IsDistinct bytes_eq (map limit_analyst xs)
limits_ok o analysts None xs is =
    subst (λ ys. (length ys ≤ 64) × All (IsLimitFor analysts) ys × IsDistinct bytes_eq (map limit_analyst ys)) (same_ok [] xs is)
    (omega arith, All-nil (IsLimitFor analysts), distinct_none _)
limits_ok o analysts (Some d) xs is =
    let all = list_ok limit_analyst _ _ (IsLimitFor analysts) (limit_ok o analysts) _ _ _ _ xs is in
    (all.1, all.2, all.3)

owner_ok : (analysts : List (List ℕ)) (o : ℕ) (d : Data) (x : OwnerEntry) → owner_in analysts o d ≡ Ok x → IsOwner x × HasLimitsFor analysts x
unfolding owner_in
owner_ok analysts o d x is =
    went_well (object_in owner_members at.Owner (λ m. place m o 0 0) d) _ x is (λ _ _ is.
    went_well (formed_text_in is_catalog_name (place at.OwnerName o 0 0) (the at.OwnerName d)) _ x is (λ name named is.
    went_well (bounded_number_in 1 (10 ^ 18) (place at.Budget o 0 0) (the at.Budget d)) _ x is (λ budget budgeted is.
    went_well (bounded_number_in 2 262144 (place at.Capacity o 0 0) (the at.Capacity d)) _ x is (λ capacity sized is.
    went_well (list_in 1 8 (place at.Tables o 0 0) table_name (λ t. place at.Table o t 0) (table_in o) (the at.Tables d)) _ x is (λ tables listed is.
    went_well (list_in 0 8 (place at.Partitions o 0 0) partition_name
    (λ p. place at.Partition o p 0) (partition_in o tables) (the at.Partitions d)) _ x is (λ partitions parted is.
    went_well (optional_in [] (list_in 0 64 (place at.Limits o 0 0) limit_analyst (λ l. place at.Limit o l 0) (limit_in o analysts))
    (get (member_name at.Limits) d)) _ x is (λ limits limited is.
    let all = list_ok table_name _ _ IsTableEntry (table_ok o) _ _ _ _ tables listed in
    let parts = list_ok partition_name _ _ (IsPartition tables) (partition_ok o tables) _ _ _ _ partitions parted in
    let money = number_ok _ _ _ _ budget budgeted in
    let room = number_ok _ _ _ _ capacity sized in
    let bounds = limits_ok o analysts _ limits limited in
    subst (λ owner. IsOwner owner × HasLimitsFor analysts owner) (same_ok _ x is) (
      record {
        name = text_ok is_catalog_name _ _ name named;
        least_budget = money.0;
        most_budget = money.1;
        least_capacity = room.0;
        most_capacity = room.1;
        some_tables = all.0;
        few_tables = all.1;
        tables = all.2;
        distinct_tables = all.3;
        few_partitions = parts.1;
        partitions = parts.2;
        distinct_partitions = parts.3;
        few_limits = bounds.0;
        limits = λ l limit low. (bounds.1 l limit low).0;
        distinct_limits = bounds.2;
      },
      λ l limit low. (bounds.1 l limit low).1,
    ))))))))

-- analysts and owners that were read are a catalog's
pub parts_ok : (analysts : List (List ℕ)) (owners : List OwnerEntry) (text : List ℕ) (d : Data)
    → list_in 1 64 (place at.Analysts 0 0 0) (λ name. name) (label_place Analysts) (label_in Analysts) (the at.Analysts d) ≡ Ok analysts
    → list_in 1 owner_limit (place at.Owners 0 0 0) owner_name (λ o. place at.Owner o 0 0) (owner_in analysts) (the at.Owners d) ≡ Ok owners
    → IsCatalog (record { analysts = analysts; owners = owners; text = text })
parts_ok analysts owners text d listed owned =
    let all = list_ok (λ name. name) (label_place Analysts) (label_in Analysts) IsCatalogName (λ a d s reads. text_ok is_catalog_name
    (place at.Analyst 0 a 0) d s reads) _ _ _ _ analysts listed in
    let each = list_ok owner_name _ _ (λ owner. IsOwner owner × HasLimitsFor analysts owner) (owner_ok analysts) _ _ _ _ owners owned in
    record {
      some_analysts = all.0;
      few_analysts = all.1;
      analysts = all.2;
      distinct_analysts = rw (map-id analysts) at all.3;
      some_owners = each.0;
      few_owners = each.1;
      owners = λ o owner low. (each.2 o owner low).0;
      limits = λ o owner low. (each.2 o owner low).1;
      distinct_owners = each.3;
    }

-- A file that holds a catalog holds one that keeps the rules.
pub every_catalog_keeps_the_rules : (bytes : List ℕ) (catalog : Catalog) → catalog_in_file bytes ≡ Ok catalog → IsCatalog catalog
unfolding catalog_in_file catalog_in
every_catalog_keeps_the_rules bytes catalog is =
    went_well (json_in bytes) _ catalog is (λ d _ is.
    went_well (object_in catalog_members at.Catalog (λ m. place m 0 0 0) d) _ catalog is (λ _ _ is.
    went_well (list_in 1 64 (place at.Analysts 0 0 0) (λ name. name) (label_place Analysts) (label_in Analysts) (the at.Analysts d)) _ catalog is
    (λ analysts listed is.
    went_well (list_in 1 owner_limit (place at.Owners 0 0 0) owner_name (λ o. place at.Owner o 0 0) (owner_in analysts) (the at.Owners d)) _ catalog is (λ owners owned is.
    subst IsCatalog (same_ok _ catalog is) (parts_ok analysts owners _ d listed owned)))))
