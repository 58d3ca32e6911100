-- an owner is found by its name
use Rattle.std.proofs.Common.{◌≡◌, ℕ, Bool, true, false, cond, List, Some, None, length, slice_get, get_or, refl, ◌∙◌, ap, bytes_eq}
use Rattle.std.specs.Prelude.{find, position, nat_lt, ok_or}
use Rattle.std.specs.List.{position_or_len}
use Rattle.std.proofs.lemmas.List.Folds.{find_at}
use Rattle.std.proofs.lemmas.List.Quantifiers.{position-Some}
use Rattle.std.proofs.lemmas.Option.{slice_get-get_or, slice_get_past}
use Rattle.std.proofs.lemmas.Bool.{ltb-false}
use Rattle.owner_catalog.specs.Entries.{Catalog, OwnerEntry, owner_entry_at}
use Rattle.catalog_loading.specs.Loaded.{entry_named}
use Rattle.catalog_loading.specs.Given.{IsOwnerAt, IsRefusalOf, IsRefusedBy}
use Rattle.catalog_loading.specs.declared.stops.Stop.{Stop}
use Rattle.catalog_loading.proofs.FileReads.{refusal_decided}

place_is : {A : Type 0} (p : A → Bool) (xs : List A) (o : ℕ) (b : Bool) → cond b (Some (position_or_len p xs)) None ≡ Some o → position_or_len p xs ≡ o
place_is p xs o true is = cc
place_is p xs o false is = cc

pub find_place : {A : Type 0} (p : A → Bool) (xs : List A) (o : ℕ) (d : A) → position p xs ≡ Some o → find p xs ≡ Some (get_or xs o d)
find_place p xs o d is =
    find_at p xs ∙ ap (slice_get xs) (place_is p xs o (nat_lt (position_or_len p xs) (length xs)) is) ∙ slice_get-get_or xs o d (position-Some p xs o d is).0

find_nowhere : {A : Type 0} (p : A → Bool) (xs : List A) → position p xs ≡ None → find p xs ≡ None
find_nowhere p xs is = find_at p xs ∙ slice_get_past xs (position_or_len p xs) (ltb-false (position_or_len p xs) (length xs) (here (nat_lt (position_or_len p xs) (length xs)) is))
  where
    here : (b : Bool) → cond b (Some (position_or_len p xs)) None ≡ None → b ≡ false
    here true is = cc
    here false is = refl

pub owner_found : (catalog : Catalog) (name : List ℕ) (o : ℕ) → position (λ (owner : OwnerEntry). bytes_eq name owner.name) catalog.owners ≡ Some o → IsOwnerAt catalog name o
owner_found catalog name o is = record {
  place = is;
  within = (position-Some (λ (owner : OwnerEntry). bytes_eq name owner.name) catalog.owners o (owner_entry_at catalog 0) is).0;
  is = ap (λ found. ok_or found name) (find_place (λ (owner : OwnerEntry). bytes_eq name owner.name) catalog.owners o _ is);
}

pub owner_missing : (catalog : Catalog) (name : List ℕ) (stop : Stop) → position (λ (owner : OwnerEntry). bytes_eq name owner.name) catalog.owners ≡ None → IsRefusalOf name stop → IsRefusedBy (entry_named catalog name) stop
owner_missing catalog name stop is refuses =
    refusal_decided name (entry_named catalog name) stop (ap (λ found. ok_or found name) (find_nowhere (λ (owner : OwnerEntry). bytes_eq name owner.name) catalog.owners is)) refuses
