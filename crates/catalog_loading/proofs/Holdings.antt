-- what is read of a catalog's owners is what a house may hold
use Rattle.std.proofs.Common.{◌≡◌, ℕ, zero, suc, ◌<◌, ◌≤◌, List, [], ◌∷◌, ◌++◌, Option, Some, get_or, length, slice_get, refl, ◌∙◌, ap, arith}
use Rattle.std.specs.Prelude.{Ok, ok_or, option_and_then}
use Rattle.std.proofs.lemmas.Option.{slice_get-get_or}
use Rattle.metric_values.specs.Tables.{Dataset, IsDataset}
use Rattle.owner_catalog.specs.Catalog.{Catalog, IsCatalog, OwnerEntry, owner_signature}
use Rattle.owner_catalog.specs.Entries.{owner_entry_at}
use Rattle.part_views.specs.Holding.{Holding, IsHolding}
use Rattle.owner_house.specs.House.{register_with}
use Rattle.catalog_loading.specs.Files.{Contents}
use Rattle.catalog_loading.specs.Steps.{one_by_one}
use Rattle.catalog_loading.specs.Loaded.{IsLoading, LoadedOwner, holding_in, loading_with, owner_read}
use Rattle.catalog_loading.specs.Given.{AreReadOf, IsOwnerAt, holding_with, holdings_with}
use Rattle.catalog_loading.proofs.Reached.{IsDone, any_reads}
use Rattle.catalog_loading.proofs.Loaded.{loading_lawful, owner_loaded_for}

-- an owner's tables that were read
pub owner_holds : (held : Option Contents) (old new : List (List ℕ)) (catalog : Catalog) (o : ℕ) (owned : LoadedOwner) → IsCatalog catalog → o < length catalog.owners
    → IsDone held old new (owner_read (owner_entry_at catalog o)) owned → IsHolding owned.holding
owner_holds held old new catalog o owned lawful within read =
    let some = any_reads held in
    let one = read some.0 some.1 in
    (owner_loaded_for (owner_entry_at catalog o) one.0 owned (lawful.owners o _ within) one.2.given).held.rows

-- each table's file has its SHA-256
pub owner_hashes : (held : Option Contents) (old new : List (List ℕ)) (catalog : Catalog) (o : ℕ) (owned : LoadedOwner) → IsCatalog catalog → o < length catalog.owners
    → IsDone held old new (owner_read (owner_entry_at catalog o)) owned → length owned.hashes ≡ length (owner_entry_at catalog o).tables
owner_hashes held old new catalog o owned lawful within read =
    let some = any_reads held in
    let one = read some.0 some.1 in
    (owner_loaded_for (owner_entry_at catalog o) one.0 owned (lawful.owners o _ within) one.2.given).hashed

-- all owners' tables that were read
pub all_hold : (held : Option Contents) (old new : List (List ℕ)) (catalog : Catalog) (owned : List LoadedOwner) → IsCatalog catalog → IsDone held old new (one_by_one owner_read catalog.owners) owned
    → IsLoading (loading_with catalog owned)
all_hold held old new catalog owned lawful read =
    let some = any_reads held in
    let one = read some.0 some.1 in
    loading_lawful catalog one.0 owned lawful one.2.given

-- what one of them holds, by its name and by its number
pub one_holds : (catalog : Catalog) (holdings : List Holding) (name : List ℕ) (o : ℕ) (holding : Holding) → IsOwnerAt catalog name o → slice_get holdings o ≡ Some holding
    → holding_in (register_with catalog holdings) name ≡ Ok holding
one_holds catalog holdings name o holding owner at =
    ap (λ place. ok_or (option_and_then (slice_get holdings) place) name) owner.place ∙ ap (λ found. ok_or found name) at

-- ---- what owners hold whose tables have these rows

pub held_none : (owners : List OwnerEntry) → holdings_with owners [] ≡ []
held_none [] = refl
held_none (owner ∷ owners) = refl

-- one owner's more
held_next : (owners : List OwnerEntry) (all : List Dataset) (rows : Dataset) (d : OwnerEntry) → length all < length owners
    → holdings_with owners (all ++ rows ∷ []) ≡ holdings_with owners all ++ holding_with (get_or owners (length all) d) rows ∷ []
held_next [] all rows d less = absurd (omega (arith, less))
held_next (owner ∷ owners) [] rows d less = ap (λ (hs : List Holding). holding_with owner rows ∷ hs) (held_none owners)
held_next (owner ∷ owners) (its ∷ all) rows d less =
    ap (λ (hs : List Holding). holding_with owner its ∷ hs) (held_next owners all rows d (omega (arith, less)))

pub held_more : (owners : List OwnerEntry) (all : List Dataset) (rows : Dataset) (n : ℕ) (d : OwnerEntry) → length all ≡ n → n < length owners
    → holdings_with owners (all ++ rows ∷ []) ≡ holdings_with owners all ++ holding_with (get_or owners n d) rows ∷ []
held_more owners all rows n d counted within =
    held_next owners all rows d (omega (arith, counted, within)) ∙ ap (λ (k : ℕ). holdings_with owners all ++ holding_with (get_or owners k d) rows ∷ []) counted

pub held_length : (owners : List OwnerEntry) (all : List Dataset) → length all ≤ length owners → length (holdings_with owners all) ≡ length all
held_length [] [] few = refl
held_length [] (rows ∷ all) few = absurd (omega (arith, few))
held_length (owner ∷ owners) [] few = refl
held_length (owner ∷ owners) (rows ∷ all) few = ap suc (held_length owners all (omega (arith, few)))

-- what one of them holds
pub held_slice : (owners : List OwnerEntry) (all : List Dataset) (o : ℕ) (rows : Dataset) (d : OwnerEntry) → o < length owners → slice_get all o ≡ Some rows
    → slice_get (holdings_with owners all) o ≡ Some (holding_with (get_or owners o d) rows)
held_slice [] all o rows d less at = absurd (omega (arith, less))
held_slice (owner ∷ owners) [] o rows d less at = cc
held_slice (owner ∷ owners) (its ∷ all) zero rows d less at =
    let same : its ≡ rows = cc in
    ap (λ (rs : Dataset). Some (holding_with owner rs)) same
held_slice (owner ∷ owners) (its ∷ all) (suc o) rows d less at = held_slice owners all o rows d (omega (arith, less)) at

pub rows_held : (catalog : Catalog) (all : List Dataset) (o : ℕ) (rows : Dataset) → AreReadOf catalog all → o < length catalog.owners → slice_get all o ≡ Some rows
    → IsDataset (owner_signature (owner_entry_at catalog o)) rows
rows_held catalog all o rows read within at =
    let owner = owner_entry_at catalog o in
    (read.register.holds o owner (holding_with owner rows) (slice_get-get_or catalog.owners o _ within) (held_slice catalog.owners all o rows _ within at)).rows.dataset
