-- The house: its analysts, its owners, their tables and partitions.
use Rattle.std.specs.Prelude.{◌≡◌, ℕ, ◌+◌, List, [], ◌∷◌, length, Option, Some, None, cond, map, get_or, replicate}
use Rattle.std.specs.Prelude.{position, bytes_eq, slice_get, option_map}
use Rattle.std.specs.List.{zip}
use Rattle.journal_records.specs.Encoding.{newest_version}
use Rattle.budget_core.specs.Entries.{Entry}
use Rattle.owner_catalog.specs.Limits.{owner_limit}
use Rattle.owner_catalog.specs.Catalog.{Catalog, OwnerEntry, PartitionEntry, IsCatalog, owner_signature}
use Rattle.owner_catalog.specs.Entries.{limit_for}
use Rattle.part_views.specs.Holding.{Holding, IsHolding}
use Rattle.owner_house.specs.Owner.{Owner, HasData}

-- the analysts' names, in order, and the owners
pub record House : Type 0 where
  pub analysts : List (List ℕ)
  pub owners : List Owner

-- the number of the analyst of this name
abbrev pub analyst_named : House → List ℕ → Option ℕ
analyst_named house name = position (λ analyst. bytes_eq name analyst) house.analysts

-- the owner of this name among some, with its number
abbrev pub owner_from : ℕ → List Owner → List ℕ → Option (ℕ × Owner)
owner_from n [] name = None
owner_from n (owner ∷ owners) name = cond (bytes_eq name owner.name) (Some (n, owner)) (owner_from (n + 1) owners name)

-- the owner of this name, with its number
abbrev pub owner_named : House → List ℕ → Option (ℕ × Owner)
owner_named house name = owner_from 0 house.owners name

-- the number of an owner's partition of this name
abbrev pub partition_named : Owner → List ℕ → Option ℕ
partition_named owner name = position (λ partition. bytes_eq name partition.name) owner.partitions

abbrev pub no_partition : PartitionEntry
no_partition = record { name = []; table = 0; column = 0; keys = [] }

-- the owner's partition of this number
abbrev pub partition_at : Owner → ℕ → PartitionEntry
partition_at owner p = get_or owner.partitions p no_partition

-- the number of this key of a partition
abbrev pub key_named : PartitionEntry → List ℕ → Option ℕ
key_named partition key = position (λ other. bytes_eq key other) partition.keys

-- An owner's rows are a dataset of its tables, its partitions are of these, and its entry counts the house's analysts.
pub record IsOwnerIn (house : House) (owner : Owner) : Type 0 where
  pub data_of : HasData owner
  pub analysts : owner.entry.analysts ≡ length house.analysts

abbrev pub AreOwners : House → Type 0
AreOwners house = (o : ℕ) (owner : Owner) → slice_get house.owners o ≡ Some owner → IsOwnerIn house owner

-- What a house is made of: a catalog, what each of its owners holds, in order, and the versions of their journals.
pub record Register : Type 0 where
  pub catalog : Catalog
  pub holdings : List Holding
  pub versions : List ℕ

abbrev pub register_by : Catalog → List Holding → (versions : List ℕ) → Register
register_by catalog holdings versions = record { catalog = catalog; holdings = holdings; versions = versions }

-- with new journals
abbrev pub register_with : Catalog → List Holding → Register
register_with catalog holdings = register_by catalog holdings (replicate owner_limit newest_version)

-- how many keys each of an owner's partitions has
abbrev pub keys_of : OwnerEntry → List ℕ
keys_of owner = map (λ partition. length partition.keys) owner.partitions

-- what each analyst may spend with an owner at most, where it has a limit, in the catalog's order
abbrev pub limits_of : Catalog → OwnerEntry → List (Option ℕ)
limits_of catalog owner = map (limit_for owner) catalog.analysts

-- what is kept of an owner's budget, for a new journal
abbrev pub entry_of : Catalog → OwnerEntry → Entry
entry_of catalog owner =
    record {
      budget = owner.budget;
      capacity = owner.capacity;
      analysts = length catalog.analysts;
      keys = keys_of owner;
      version = newest_version;
      limits = limits_of catalog owner;
    }

-- an owner of the catalog, what it holds, and the version of its journal
abbrev pub owner_of : Catalog → (OwnerEntry × Holding) × ℕ → Owner
owner_of catalog ((owner, holding), version) = record {
  name = owner.name;
  entry = record (entry_of catalog owner) { version = version };
  tables = holding.tables;
  rows = holding.rows;
  partitions = holding.partitions;
}

-- a catalog's owners
abbrev pub owners_of : Catalog → List OwnerEntry → List Holding → (versions : List ℕ) → List Owner
owners_of catalog entries holdings versions = map (owner_of catalog) (zip (zip entries holdings) versions)

abbrev pub house_of : Register → House
house_of register =
    record { analysts = register.catalog.analysts; owners = owners_of register.catalog register.catalog.owners register.holdings register.versions }

-- The owner's tables and partitions are those that the catalog says it has, and there are rows of each table.
pub record IsHeldBy (owner : OwnerEntry) (holding : Holding) : Type 0 where
  pub tables : holding.tables ≡ owner_signature owner
  pub partitions : holding.partitions ≡ owner.partitions
  pub rows : IsHolding holding

-- what a register may be: a catalog's owners, each of which holds rows of its tables and its partitions
pub record IsRegister (register : Register) : Type 0 where
  pub catalog : IsCatalog register.catalog
  pub each_has : length register.holdings ≡ length register.catalog.owners
  pub versioned : length register.versions ≡ owner_limit
  pub holds : (o : ℕ) (owner : OwnerEntry) (holding : Holding) → slice_get register.catalog.owners o ≡ Some owner
      → slice_get register.holdings o ≡ Some holding → IsHeldBy owner holding

abbrev pub no_entry : Entry
no_entry = record { budget = 0; capacity = 0; analysts = 0; keys = []; version = 0; limits = [] }

abbrev pub no_owner : Owner
no_owner = record { name = []; entry = no_entry; tables = []; rows = []; partitions = [] }

-- the owner of this number
abbrev pub owner_at : House → ℕ → Owner
owner_at house o = get_or house.owners o no_owner

-- a number that was found, with its owner
abbrev pub numbered : House → Option ℕ → Option (ℕ × Owner)
numbered house found = option_map (λ o. (o, owner_at house o)) found
