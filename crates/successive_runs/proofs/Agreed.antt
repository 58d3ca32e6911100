-- what a grant and a run make of the same files
use Rattle.std.proofs.Common.{◌≡◌, ◌∙◌, ◌<◌, ℕ, List, [], ◌∷◌, get_or, length, map, Some, slice_get, refl, sym, ap, subst, arith}
use Rattle.std.specs.Prelude.{Result, Ok, Err, option_map}
use Rattle.std.proofs.lemmas.Option.{get_or_from_slice_get, slice_get-get_or, slice_get-map}
use Rattle.owner_catalog.specs.Catalog.{Catalog, OwnerEntry}
use Rattle.owner_catalog.specs.Entries.{owner_entry_at}
use Rattle.command_words.specs.Command.{command_of, grant, run}
use Rattle.catalog_loading.specs.Files.{Contents, ReadsToCome, always}
use Rattle.catalog_loading.specs.Steps.{FileStep, ◌>>=◌, done, one_by_one}
use Rattle.catalog_loading.specs.Loaded.{KeyedHouse, KeyedOwner, LoadedOwner, Loading, catalog_read, house_read, key_read, keyed, keyed_owner_read, loaded, loading_with, owner_read}
use Rattle.catalog_loading.proofs.Pairs.{Pairs, inverted, pairs_at, pairs_length}
use Rattle.catalog_loading.proofs.Told.{Keeps, keeps_catalog, keeps_key, keeps_owner}
use Rattle.query_server.specs.Due.{work_of}
use Rattle.query_server.specs.Grant.{entry_in, header_in}
use Rattle.query_server.specs.Promise.{IsHouseOf}
use Rattle.query_server.specs.Work.{to_answer, to_grant}
use Rattle.query_server.proofs.Endings.{IsOwnerRead, house_by, house_gives, number_known, owner_by, owner_gives}
use Rattle.successive_runs.specs.Agreed.{IsOwnerOfHouse}

-- where files hold the same at each read, each step gives what it gives by itself
each_by_itself : {A B : Type 0} (held : Contents) (step : A → FileStep B) → ((x : A) → Keeps held (step x)) → (xs : List A) (ys : List B) → (one_by_one step xs (always held)).given ≡ Ok ys
    → Pairs (λ x y. (step x (always held)).given ≡ Ok y) xs ys
unfolding one_by_one
each_by_itself held step keeps [] [] is = tt
each_by_itself held step keeps [] (y ∷ ys) is = cc (is)
each_by_itself {A} {B} held step keeps (x ∷ xs) ys is =
    let one = inverted (step x) (λ y. one_by_one step xs >>= (λ ys. done (y ∷ ys))) (always held) ys is in
    let others = inverted (one_by_one step xs) (λ zs. done (one.0 ∷ zs)) (step x (always held)).rest ys one.2 in
    subst (λ (zs : List B). Pairs (λ x y. (step x (always held)).given ≡ Ok y) (x ∷ xs) zs) (same (one.0 ∷ others.0) ys others.2)
    (one.1, each_by_itself held step keeps xs others.0 (subst (λ (reads : ReadsToCome). (one_by_one step xs reads).given ≡ Ok others.0) (keeps x) others.1))
  where
    same : (xs ys : List B) → (done xs (always held)).given ≡ Ok ys → xs ≡ ys
    same xs ys is = cc (is)

-- the same step gives one thing
one_value : {A : Type 0} (a b : A) (given : Result A (List ℕ)) → given ≡ Ok a → given ≡ Ok b → a ≡ b
one_value a b given is also = cc (is, also)

no_tables : LoadedOwner
no_tables = record { holding = record { tables = []; rows = []; partitions = [] }; hashes = [] }

-- of one owner by itself the tables' SHA-256 are those that it has among all
module _ (held : Contents) (catalog : Catalog) (owned : List LoadedOwner) (all : (one_by_one owner_read catalog.owners (always held)).given ≡ Ok owned) (o : ℕ) (within : o < length catalog.owners) where
  pairs : Pairs (λ (owner : OwnerEntry) (its : LoadedOwner). (owner_read owner (always held)).given ≡ Ok its) catalog.owners owned
  pairs = each_by_itself held owner_read (keeps_owner held) catalog.owners owned all

  there : slice_get owned o ≡ Some (get_or owned o no_tables)
  there = slice_get-get_or owned o no_tables (omega (arith, within, pairs_length _ catalog.owners owned pairs))

  read_of : (owner_read (owner_entry_at catalog o) (always held)).given ≡ Ok (get_or owned o no_tables)
  read_of = pairs_at _ catalog.owners owned o (owner_entry_at catalog o) (get_or owned o no_tables) pairs (slice_get-get_or catalog.owners o _ within) there

  hashes_of : (tables : LoadedOwner) → (owner_read (owner_entry_at catalog o) (always held)).given ≡ Ok tables → tables.hashes ≡ get_or (map (λ (l : LoadedOwner). l.hashes) owned) o []
  hashes_of tables read =
      ap (λ (l : LoadedOwner). l.hashes) (one_value tables (get_or owned o no_tables) _ read read_of)
      ∙ sym (get_or_from_slice_get (map (λ (l : LoadedOwner). l.hashes) owned) o (get_or owned o no_tables).hashes []
      (slice_get-map (λ (l : LoadedOwner). l.hashes) owned o ∙ ap (option_map (λ (l : LoadedOwner). l.hashes)) there))

-- an owner in a house, for its journal alone
abbrev owner_in : KeyedHouse → (o : ℕ) → KeyedOwner
owner_in house o = record { catalog = house.loading.register.catalog; number = o; hashes = get_or house.loading.hashes o []; key = house.key }

of_house : (one : KeyedOwner) (house : KeyedHouse) → one.number < length one.catalog.owners → one ≡ owner_in house one.number → IsOwnerOfHouse one house
of_house one house within is = record {
  known = subst (λ (c : Catalog). one.number < length c.owners) (ap (λ (k : KeyedOwner). k.catalog) is) within;
  name = ap (λ (k : KeyedOwner). (owner_entry_at k.catalog one.number).name) is;
  key = ap (λ (k : KeyedOwner). k.key) is;
  entry = λ version. ap (λ (k : KeyedOwner). entry_in k version) is;
  header = λ version. ap (λ (k : KeyedOwner). header_in k version) is;
}

module _ (held : Contents) (catalog key owner : List ℕ) where
  -- the reads behind the catalog and the key
  abbrev behind : ReadsToCome
  behind = (key_read key (catalog_read catalog (always held)).rest).rest

  behind_is : behind ≡ always held
  behind_is = ap (λ (reads : ReadsToCome). (key_read key reads).rest) (keeps_catalog held catalog) ∙ keeps_key held key

  read_agree : (one : KeyedOwner) (house : KeyedHouse) → IsOwnerRead catalog key owner (always held) one → (house_read catalog key (always held)).given ≡ Ok house → IsOwnerOfHouse one house
  read_agree one house read is =
      let found = house_gives keyed catalog key (always held) house is in
      let all = inverted (one_by_one owner_read found.0.owners) (λ owned. done (loading_with found.0 owned)) behind found.2 found.5 in
      let its_catalog : one.catalog ≡ found.0 = one_value one.catalog found.0 _ read.is_catalog found.3 in
      let its_key : one.key ≡ found.1 = one_value one.key found.1 _ read.is_key found.4 in
      let loading : loading_with found.0 all.0 ≡ found.2 = cc (all.2) in
      let within = number_known one.catalog owner one.number read.is_number in
      let its_tables : (owner_read (owner_entry_at found.0 one.number) (always held)).given ≡ Ok read.tables
      = subst (λ (reads : ReadsToCome). (owner_read (owner_entry_at found.0 one.number) reads).given ≡ Ok read.tables) behind_is
      (subst (λ (c : Catalog). (owner_read (owner_entry_at c one.number) behind).given ≡ Ok read.tables) its_catalog read.are_tables) in
      let its_hashes : one.hashes ≡ get_or (map (λ (l : LoadedOwner). l.hashes) all.0) one.number []
      = read.hashes ∙ hashes_of held found.0 all.0 (subst (λ (reads : ReadsToCome). (one_by_one owner_read found.0.owners reads).given ≡ Ok all.0) behind_is all.1) one.number
      (subst (λ (c : Catalog). one.number < length c.owners) its_catalog within) read.tables its_tables in
      let made : one ≡ owner_in (keyed (loading_with found.0 all.0) found.1) one.number
      = λ i. record { catalog = its_catalog i; number = one.number; hashes = its_hashes i; key = its_key i } in
      of_house one house within (made ∙ ap (λ (l : Loading). owner_in (keyed l found.1) one.number) loading ∙ ap (λ (h : KeyedHouse). owner_in h one.number) found.6)

pub files_agree : (held : Contents) (catalog key owner : List ℕ) (house : KeyedHouse) (one : KeyedOwner) → (house_read catalog key (always held)).given ≡ Ok house
    → (keyed_owner_read catalog key owner (always held)).given ≡ Ok one → IsOwnerOfHouse one house
files_agree held catalog key owner house one is also =
    let read = owner_gives (λ (k : KeyedOwner). k) catalog key owner (always held) one also in
    read_agree held catalog key owner one house (subst (IsOwnerRead catalog key owner (always held)) read.2 read.1) is

pub words_agree : (held : Contents) (catalog key owner : List ℕ) (amount workers : ℕ) (granting running : List (List ℕ)) (loading : Loading) (bytes : List ℕ) (one : KeyedOwner)
    → command_of running ≡ Some (run catalog key workers) → work_of running (always held) ≡ to_answer workers loading bytes
    → command_of granting ≡ Some (grant catalog key owner amount) → work_of granting (always held) ≡ to_grant amount one → IsOwnerOfHouse one (keyed loading bytes)
words_agree held catalog key owner amount workers granting running loading bytes one runs answers grants granted =
    let house = house_by running (always held) workers loading bytes answers in
    let read = owner_by granting (always held) amount one granted in
    let ran : Some (run house.catalog house.key_name workers) ≡ Some (run catalog key workers) = sym house.commanded ∙ runs in
    let raised : Some (grant read.catalog read.key_name read.owner amount) ≡ Some (grant catalog key owner amount) = sym read.commanded ∙ grants in
    let its_catalog : house.catalog ≡ catalog = cc (ran) in
    let its_key : house.key_name ≡ key = cc (ran) in
    let from : read.catalog ≡ catalog = cc (raised) in
    let under : read.key_name ≡ key = cc (raised) in
    read_agree held catalog key read.owner one (keyed loading bytes)
    (subst (λ (c : List ℕ). IsOwnerRead c key read.owner (always held) one) from
    (subst (λ (k : List ℕ). IsOwnerRead read.catalog k read.owner (always held) one) under read.is_read))
    (subst (λ (c : List ℕ). (house_read c key (always held)).given ≡ Ok (keyed loading bytes)) its_catalog
    (subst (λ (k : List ℕ). (house_read house.catalog k (always held)).given ≡ Ok (keyed loading bytes)) its_key house.is_read))
