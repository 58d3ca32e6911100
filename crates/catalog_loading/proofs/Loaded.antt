-- what loaded tables are
use Rattle.std.proofs.Common.{◌≡◌, ◌∙◌, ◌≤◌, ◌<◌, ℕ, List, [], ◌∷◌, Option, Some, None, get_or, length, map, slice_get, refl, sym, ap, subst, arith}
use Rattle.std.specs.Prelude.{Result, Ok, Err, All, option_map}
use Rattle.std.proofs.lemmas.List.{length-map}
use Rattle.std.proofs.lemmas.Option.{get_or_from_slice_get, slice_get-get_or, slice_get-map}
use Rattle.owner_catalog.specs.Entries.{owner_entry_at}
use Rattle.std.proofs.lemmas.List.Elements.{All-head, All-tail}
use Rattle.metric_values.specs.Values.{Flat}
use Rattle.metric_values.specs.Typed.{TypedFlat}
use Rattle.metric_values.specs.Tables.{IsDataset}
use Rattle.table_store.specs.Schema.{row_of_schema}
use Rattle.table_store.specs.Table.{table_in_file}
use Rattle.table_store.proofs.TableLaws.{table_in_file-typed}
use Rattle.owner_catalog.specs.Catalog.{Catalog, OwnerEntry, TableEntry, IsCatalog, catalog_in_file}
use Rattle.owner_catalog.specs.Entries.{table_type_of}
use Rattle.owner_catalog.specs.Lawful.{IsOwner, IsTableEntry}
use Rattle.owner_catalog.proofs.Laws.{every_catalog_keeps_the_rules}
use Rattle.owner_house.specs.Names.{AreNames}
use Rattle.part_views.specs.Holding.{Holding}
use Rattle.part_views.proofs.Lawful.{owner_partitions}
use Rattle.owner_house.proofs.Signed.{signature_signed, table_named}
use Rattle.owner_house.specs.House.{IsHeldBy}
use Rattle.owner_house.proofs.Names.{sayable}
use Rattle.catalog_loading.specs.Files.{ReadsToCome}
use Rattle.catalog_loading.specs.Steps.{◌>>=◌, done, one_by_one, file_read, from}
use Rattle.catalog_loading.specs.Loaded.{LoadedOwner, LoadedTable, Loading, catalog_read, loaded, loading_with, or_refused, owner_read, owner_with, table_read, table_with, IsLoading}
use Rattle.catalog_loading.proofs.Pairs.{Pairs, each_pairs, inverted, pairs_at, pairs_length}

or_value : {A F : Type 0} (name : List ℕ) (given : Result A F) (a : A) → or_refused name given ≡ Ok a → given ≡ Ok a
or_value name (Ok b) a is = let same : b ≡ a = cc in ap Ok same
or_value name (Err fault) a is = cc

-- A file that was read as a catalog holds one.
pub catalog_lawful : (name : List ℕ) (reads : ReadsToCome) (catalog : Catalog) → (catalog_read name reads).given ≡ Ok catalog → IsCatalog catalog
catalog_lawful name reads catalog is =
    let read = inverted (file_read name) (λ bytes. from (or_refused name (catalog_in_file bytes))) reads catalog is in
    every_catalog_keeps_the_rules read.0 catalog (or_value name (catalog_in_file read.0) catalog read.2)

-- rows of a table's columns
abbrev pub HasRows : TableEntry → List Flat → Type 0
HasRows table rows = All (TypedFlat (row_of_schema table.columns)) rows

dataset_of : (tables : List TableEntry) (rows : List (List Flat)) → Pairs HasRows tables rows → IsDataset (map table_type_of tables) rows
dataset_of [] [] pairs = tt
dataset_of [] (r ∷ rows) pairs = absurd pairs
dataset_of (t ∷ tables) [] pairs = absurd pairs
dataset_of (t ∷ tables) (r ∷ rows) pairs = (pairs.0, dataset_of tables rows pairs.1)

-- the tables' names can be said in a reply
pub names_of : (tables : List TableEntry) → All IsTableEntry tables → AreNames (map table_type_of tables)
names_of [] all = tt
names_of (t ∷ tables) all = (sayable t.name (table_named t (All-head IsTableEntry t tables all)), names_of tables (All-tail IsTableEntry t tables all))

-- what is loaded of an owner: what it holds, and a SHA-256 for each table
pub record IsLoadedFor (owner : OwnerEntry) (owned : LoadedOwner) : Type 0 where
  pub held : IsHeldBy owner owned.holding
  pub hashed : length owned.hashes ≡ length owner.tables

table_rows : (table : TableEntry) (reads : ReadsToCome) (read : LoadedTable) → IsTableEntry table → (table_read table reads).given ≡ Ok read → HasRows table read.rows
table_rows table reads read lawful is =
    let bytes = inverted (file_read table.file) (λ bytes. from (or_refused table.file (table_in_file table.columns bytes)) >>= (λ rows. done (table_with rows bytes))) reads read is in
    let rows = inverted (from (or_refused table.file (table_in_file table.columns bytes.0))) (λ rows. done (table_with rows bytes.0)) (file_read table.file reads).rest read bytes.2 in
    let some : 1 ≤ length table.columns = lawful.columns.some in
    let same : table_with rows.0 bytes.0 ≡ read = cc in
    subst (λ (t : LoadedTable). HasRows table t.rows) same
    (table_in_file-typed table.columns bytes.0 rows.0 (omega (arith, some)) (or_value table.file (table_in_file table.columns bytes.0) rows.0 rows.1))

rows_of_all : (tables : List TableEntry) (reads : List LoadedTable) → Pairs (λ table read. HasRows table read.rows) tables reads → Pairs HasRows tables (map (λ (t : LoadedTable). t.rows) reads)
rows_of_all [] [] pairs = tt
rows_of_all [] (r ∷ reads) pairs = absurd pairs
rows_of_all (t ∷ tables) [] pairs = absurd pairs
rows_of_all (t ∷ tables) (r ∷ reads) pairs = (pairs.0, rows_of_all tables reads pairs.1)

-- tables that were read
pub owner_loaded_for : (owner : OwnerEntry) (reads : ReadsToCome) (owned : LoadedOwner) → IsOwner owner → (owner_read owner reads).given ≡ Ok owned → IsLoadedFor owner owned
owner_loaded_for owner reads owned lawful is =
    let read = inverted (one_by_one table_read owner.tables) (λ tables. done (owner_with owner tables)) reads owned is in
    let same : owner_with owner read.0 ≡ owned = cc in
    let pairs = each_pairs IsTableEntry (λ table read. HasRows table read.rows) table_read table_rows owner.tables read.0 reads lawful.tables read.1 in
    subst (IsLoadedFor owner) same (record {
      held = record {
        tables = refl;
        partitions = refl;
        rows = record {
          signature = signature_signed owner lawful;
          dataset = dataset_of owner.tables (map (λ (t : LoadedTable). t.rows) read.0) (rows_of_all owner.tables read.0 pairs);
          partitions = owner_partitions owner lawful;
        };
      };
      hashed = length-map read.0 (λ (t : LoadedTable). t.hash) ∙ pairs_length (λ table read. HasRows table read.rows) owner.tables read.0 pairs;
    })

-- What all owners of a catalog hold is a register, with a SHA-256 for each table of each.
held_at : (catalog : Catalog) (owned : List LoadedOwner) → Pairs IsLoadedFor catalog.owners owned → (o : ℕ) (owner : OwnerEntry) (holding : Holding) → slice_get catalog.owners o ≡ Some owner
    → slice_get (map (λ (l : LoadedOwner). l.holding) owned) o ≡ Some holding → IsHeldBy owner holding
held_at catalog owned pairs o owner holding at has = here (slice_get owned o) refl
  where
    here : (found : Option LoadedOwner) → slice_get owned o ≡ found → IsHeldBy owner holding
    here (Some one) was =
        let got : Some one.holding ≡ Some holding = sym (slice_get-map (λ (l : LoadedOwner). l.holding) owned o ∙ ap (option_map (λ (l : LoadedOwner). l.holding)) was) ∙ has in
        let same : one.holding ≡ holding = cc in
        subst (IsHeldBy owner) same (pairs_at IsLoadedFor catalog.owners owned o owner one pairs at was).held
    here None was =
        let wrong : None ≡ Some holding = sym (slice_get-map (λ (l : LoadedOwner). l.holding) owned o ∙ ap (option_map (λ (l : LoadedOwner). l.holding)) was) ∙ has in
        cc

none_loaded : LoadedOwner
none_loaded = record { holding = record { tables = []; rows = []; partitions = [] }; hashes = [] }

hashed_at : (catalog : Catalog) (owned : List LoadedOwner) → Pairs IsLoadedFor catalog.owners owned → (o : ℕ) → o < length catalog.owners
    → length (get_or (map (λ (l : LoadedOwner). l.hashes) owned) o []) ≡ length (owner_entry_at catalog o).tables
hashed_at catalog owned pairs o within =
    let count = pairs_length IsLoadedFor catalog.owners owned pairs in
    let there : slice_get owned o ≡ Some (get_or owned o none_loaded) = slice_get-get_or owned o none_loaded (omega (arith, within, count)) in
    let at = pairs_at IsLoadedFor catalog.owners owned o (owner_entry_at catalog o) (get_or owned o none_loaded) pairs (slice_get-get_or catalog.owners o _ within) there in
    ap length (get_or_from_slice_get (map (λ (l : LoadedOwner). l.hashes) owned) o (get_or owned o none_loaded).hashes []
    (slice_get-map (λ (l : LoadedOwner). l.hashes) owned o ∙ ap (option_map (λ (l : LoadedOwner). l.hashes)) there)) ∙ at.hashed

pub loading_lawful : (catalog : Catalog) (reads : ReadsToCome) (owned : List LoadedOwner) → IsCatalog catalog → (one_by_one owner_read catalog.owners reads).given ≡ Ok owned → IsLoading (loading_with catalog owned)
loading_lawful catalog reads owned lawful is =
    let pairs = each_pairs IsOwner IsLoadedFor owner_read owner_loaded_for catalog.owners owned reads lawful.owners is in
    record {
      register = record {
        catalog = lawful;
        each_has = length-map owned (λ (l : LoadedOwner). l.holding) ∙ pairs_length IsLoadedFor catalog.owners owned pairs;
        versioned = refl;
        holds = held_at catalog owned pairs;
      };
      hashed = hashed_at catalog owned pairs;
    }

pub loaded_register : (catalog : Catalog) (reads : ReadsToCome) (loading : Loading) → IsCatalog catalog → (loaded catalog reads).given ≡ Ok loading → (loading.register.catalog ≡ catalog) × IsLoading loading
loaded_register catalog reads loading lawful is =
    let read = inverted (one_by_one owner_read catalog.owners) (λ owned. done (loading_with catalog owned)) reads loading is in
    let same : loading_with catalog read.0 ≡ loading = cc in
    (sym (ap (λ (l : Loading). l.register.catalog) same), subst IsLoading same (loading_lawful catalog reads read.0 lawful read.1))
