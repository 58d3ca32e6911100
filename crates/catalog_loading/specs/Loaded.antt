-- The files of a catalog: itself, and the tables of its owners.
use Rattle.std.specs.Prelude.{◌≡◌, ◌<◌, ℕ, List, [], length, map, nat_eq, Result, Ok}
use Rattle.std.specs.Prelude.{Err, find, get_or, position, slice_get, ok_or, option_and_then, bytes_eq, if◌then◌else◌}
use Rattle.sha2.specs.Sha256.{sha256}
use Rattle.journal_records.specs.declared.records.Header.{Header}
use Rattle.journal_records.specs.Encoding.{newest_version}
use Rattle.budget_core.specs.Entries.{Entry}
use Rattle.metric_values.specs.Values.{Flat}
use Rattle.table_store.specs.Table.{table_in_file}
use Rattle.owner_catalog.specs.Catalog.{Catalog, IsCatalog, OwnerEntry, TableEntry, catalog_in_file, owner_signature}
use Rattle.owner_catalog.specs.Digest.{digest_of}
use Rattle.owner_catalog.specs.Entries.{owner_entry_at}
use Rattle.part_views.specs.Holding.{Holding}
use Rattle.owner_house.specs.House.{Register, IsRegister, entry_of, register_with}
use Rattle.catalog_loading.specs.Steps.{FileStep, ◌>>=◌, done, one_by_one, file_read, from}

-- this name is refused, where something is wrong
abbrev pub or_refused : {A F : Type 0} → (name : List ℕ) → Result A F → Result A (List ℕ)
or_refused name (Ok a) = Ok a
or_refused name (Err fault) = Err name

-- the bytes of a file of 32 of them
abbrev pub key_read : (name : List ℕ) → FileStep (List ℕ)
key_read name = do
  key ← file_read name
  from (if nat_eq (length key) 32 then Ok key else Err name)

-- a file within the definition of a catalog
abbrev pub catalog_read : (name : List ℕ) → FileStep Catalog
catalog_read name = do
  bytes ← file_read name
  from (or_refused name (catalog_in_file bytes))

-- a table's rows, and the SHA-256 of the file that they stand in
pub record LoadedTable : Type 0 where
  pub rows : List Flat
  pub hash : List ℕ

-- what these bytes, in which these rows stand, are of a table
abbrev pub table_with : List Flat → (bytes : List ℕ) → LoadedTable
table_with rows bytes = record { rows = rows; hash = sha256 bytes }

-- a table, in the file that its entry names
abbrev pub table_read : TableEntry → FileStep LoadedTable
table_read table = do
  bytes ← file_read table.file
  rows ← from (or_refused table.file (table_in_file table.columns bytes))
  done (table_with rows bytes)

-- an owner's tables, their rows and its partitions, and the SHA-256 of each of its table files, in order
pub record LoadedOwner : Type 0 where
  pub holding : Holding
  pub hashes : List (List ℕ)

-- what these tables are of this owner
abbrev pub owner_with : OwnerEntry → List LoadedTable → LoadedOwner
owner_with owner tables =
    record {
      holding = record { tables = owner_signature owner; rows = map (λ t. t.rows) tables; partitions = owner.partitions };
      hashes = map (λ t. t.hash) tables;
    }

abbrev pub owner_read : OwnerEntry → FileStep LoadedOwner
owner_read owner = do
  tables ← one_by_one table_read owner.tables
  done (owner_with owner tables)

-- What all owners of a catalog hold, and the SHA-256 of each one's table files. Every command that reads a catalog but `grant`, which
-- reads one owner's tables, loads both, though the digests of journals alone need the SHA-256.
pub record Loading : Type 0 where
  pub register : Register
  pub hashes : List (List (List ℕ))

-- what these owners are of this catalog
abbrev pub loading_with : Catalog → List LoadedOwner → Loading
loading_with catalog owners =
    record { register = register_with catalog (map (λ o. o.holding) owners); hashes = map (λ o. o.hashes) owners }

-- what all owners of a catalog hold
abbrev pub loaded : Catalog → FileStep Loading
loaded catalog = do
  owners ← one_by_one owner_read catalog.owners
  done (loading_with catalog owners)

-- what is to be done with a house: CATALOG, then KEY, then the tables of all owners
abbrev pub with_house : {A : Type 0} → (Loading → (key : List ℕ) → A) → (catalog key : List ℕ) → FileStep A
with_house work catalog key = do
  house ← catalog_read catalog
  bytes ← key_read key
  loading ← loaded house
  done (work loading bytes)

-- a house that was loaded, and the key of its draws
pub record KeyedHouse : Type 0 where
  pub loading : Loading
  pub key : List ℕ

abbrev pub keyed : Loading → (key : List ℕ) → KeyedHouse
keyed loading key = record { loading = loading; key = key }

abbrev pub house_read : (catalog key : List ℕ) → FileStep KeyedHouse
house_read = with_house keyed

-- what may be loaded: a register, and the SHA-256 of each of an owner's tables
pub record IsLoading (loading : Loading) : Type 0 where
  pub register : IsRegister loading.register
  pub hashed : (o : ℕ) → o < length loading.register.catalog.owners
      → length (get_or loading.hashes o []) ≡ length (owner_entry_at loading.register.catalog o).tables

-- a house that may be opened, under a key of 32 bytes
pub record IsKeyedHouse (house : KeyedHouse) : Type 0 where
  pub lawful : IsLoading house.loading
  pub whole_key : length house.key ≡ 32

-- how many owners there are, and what is known of each by its number
abbrev pub owners_in : Loading → ℕ
owners_in loading = length loading.register.catalog.owners

abbrev pub owner_name_at : Loading → (o : ℕ) → List ℕ
owner_name_at loading o = (owner_entry_at loading.register.catalog o).name

-- the version of an owner's journal
abbrev pub version_at : Loading → (o : ℕ) → ℕ
version_at loading o = get_or loading.register.versions o newest_version

-- what is kept of an owner's budget, for a new journal, for one of this version, and for the owner's
abbrev pub new_entry : Loading → (o : ℕ) → Entry
new_entry loading o = entry_of loading.register.catalog (owner_entry_at loading.register.catalog o)

abbrev pub entry_in : Loading → (o version : ℕ) → Entry
entry_in loading o version = record (new_entry loading o) { version = version }

abbrev pub entry_at : Loading → (o : ℕ) → Entry
entry_at loading o = entry_in loading o (version_at loading o)

-- The header of an owner's journal of this version under a key: the owner's number, its budget and capacity, and the digest of the
-- key, its entry and its table files.
abbrev pub header_in : Loading → (key : List ℕ) → (o version : ℕ) → Header
header_in loading key o version = record {
  owner = o;
  budget = (owner_entry_at loading.register.catalog o).budget;
  capacity = (owner_entry_at loading.register.catalog o).capacity;
  digest = digest_of loading.register.catalog o key (get_or loading.hashes o []);
  version = version;
}

-- that of a new journal, and that of the owner's
abbrev pub new_header : Loading → (key : List ℕ) → (o : ℕ) → Header
new_header loading key o = header_in loading key o newest_version

abbrev pub header_of : Loading → (key : List ℕ) → (o : ℕ) → Header
header_of loading key o = header_in loading key o (version_at loading o)

-- what was loaded, with journals of these versions
abbrev pub in_versions : Loading → (versions : List ℕ) → Loading
in_versions loading versions = record loading { register = record loading.register { versions = versions } }

-- the owner of this name
abbrev pub entry_named : Catalog → (name : List ℕ) → Result OwnerEntry (List ℕ)
entry_named catalog name = ok_or (find (λ owner. bytes_eq name owner.name) catalog.owners) name

-- what it holds: the holding at its number
abbrev pub holding_in : Register → (name : List ℕ) → Result Holding (List ℕ)
holding_in register name =
    ok_or (option_and_then (slice_get register.holdings) (position (λ owner. bytes_eq name owner.name) register.catalog.owners)) name

-- all owners are loaded, and this one is taken
abbrev pub owner_loaded : Catalog → (name : List ℕ) → FileStep Holding
owner_loaded catalog name = do
  loading ← loaded catalog
  from (holding_in loading.register name)

-- its number in the catalog
abbrev pub number_named : Catalog → (name : List ℕ) → Result ℕ (List ℕ)
number_named catalog name = ok_or (position (λ owner. bytes_eq name owner.name) catalog.owners) name

-- ---- one owner, for its journal alone

-- a catalog, the number of an owner in it, the SHA-256 of each of that owner's table files, and a key
pub record KeyedOwner : Type 0 where
  pub catalog : Catalog
  pub number : ℕ
  pub hashes : List (List ℕ)
  pub key : List ℕ

-- the owner's name, what is kept of its budget, and the header of its journal, both for a new one
abbrev pub its_name : KeyedOwner → List ℕ
its_name one = (owner_entry_at one.catalog one.number).name

abbrev pub its_entry : KeyedOwner → Entry
its_entry one = entry_of one.catalog (owner_entry_at one.catalog one.number)

abbrev pub its_header : KeyedOwner → Header
its_header one = record {
  owner = one.number;
  budget = (owner_entry_at one.catalog one.number).budget;
  capacity = (owner_entry_at one.catalog one.number).capacity;
  digest = digest_of one.catalog one.number one.key one.hashes;
  version = newest_version;
}

-- an owner that may be opened
pub record IsKeyedOwner (one : KeyedOwner) : Type 0 where
  pub catalog : IsCatalog one.catalog
  pub known : one.number < length one.catalog.owners
  pub hashed : length one.hashes ≡ length (owner_entry_at one.catalog one.number).tables
  pub whole_key : length one.key ≡ 32

-- what is to be done with one owner's journal: CATALOG, that has OWNER, then KEY, then the tables of that owner
abbrev pub with_owner : {A : Type 0} → (KeyedOwner → A) → (catalog key owner : List ℕ) → FileStep A
with_owner work catalog key owner = do
  house ← catalog_read catalog
  number ← from (number_named house owner)
  bytes ← key_read key
  loaded ← owner_read (owner_entry_at house number)
  done (work (record { catalog = house; number = number; hashes = loaded.hashes; key = bytes }))

abbrev pub keyed_owner_read : (catalog key owner : List ℕ) → FileStep KeyedOwner
keyed_owner_read = with_owner (λ one. one)
