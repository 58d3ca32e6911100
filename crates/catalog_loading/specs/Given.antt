-- What the code's steps come to, and what stops them.
use Rattle.std.specs.declared.alloc.Global.{Global}
use Rattle.std.specs.Prelude.{Vec, map, ◌≡◌, ℕ, List, [], ◌∷◌, ◌++◌, Option, Some}
use Rattle.std.specs.Prelude.{MatchResult, Result, Ok, Err, ⊤, string_bytes, bytes_eq, position, length, ◌<◌}
use Rattle.metric_values.specs.Tables.{Dataset}
use Rattle.owner_catalog.specs.Entries.{Catalog, OwnerEntry, owner_entry_at, owner_signature}
use Rattle.part_views.specs.Holding.{Holding}
use Rattle.owner_house.specs.House.{Register, IsRegister, register_with}
use Rattle.fz_outside.specs.declared.FileFault.{FileFault}
use Rattle.fz_outside.specs.declared.FileFault.TheVariants.{Failed, NoMemory as NoneToRead}
use Rattle.catalog_loading.specs.Files.{Contents, ReadsToCome, AreTold}
use Rattle.catalog_loading.specs.Steps.{StepOutcome, FileStep}
use Rattle.catalog_loading.specs.Loaded.{LoadedOwner, Loading, entry_named}
use Rattle.catalog_loading.specs.declared.stops.Stop.{Stop}
use Rattle.catalog_loading.specs.declared.stops.Stop.TheVariants.{Usage, Refused, Journal, Disk, Fault, NoMemory}

-- what an owner holds whose tables have these rows
abbrev pub holding_with : OwnerEntry → Dataset → Holding
holding_with owner rows = record { tables = owner_signature owner; rows = rows; partitions = owner.partitions }

-- and with the SHA-256 of their files
abbrev pub owner_loaded_of : OwnerEntry → Dataset → List (List ℕ) → LoadedOwner
owner_loaded_of owner rows hashes = record { holding = holding_with owner rows; hashes = hashes }

-- what these owners hold, in order
abbrev pub holdings_with : List OwnerEntry → List Dataset → List Holding
holdings_with [] rows = []
holdings_with (owner ∷ owners) [] = []
holdings_with (owner ∷ owners) (rows ∷ others) = holding_with owner rows ∷ holdings_with owners others

-- rows of the tables of each of a catalog's owners, in order
pub record AreReadOf (catalog : Catalog) (rows : List Dataset) : Type 0 where
  pub each_has : length rows ≡ length catalog.owners
  pub register : IsRegister (register_with catalog (holdings_with catalog.owners rows))

-- what a house and the SHA-256 of its owners' table files are
abbrev pub loading_by : Register → List (Vec (List ℕ) Global) → Loading
loading_by register hashes = record { register = register; hashes = map (λ of_owner. of_owner.items) hashes }

-- the same of all owners of a catalog, whose tables have these rows
abbrev pub loading_read : Catalog → List Dataset → List (Vec (List ℕ) Global) → Loading
loading_read catalog rows hashes = loading_by (register_with catalog (holdings_with catalog.owners rows)) hashes

-- this name is refused, or memory ran out
abbrev pub IsRefusalOf : (name : List ℕ) → Stop → Type 0
IsRefusalOf name Usage = ⊥
IsRefusalOf name (Refused other) = string_bytes other ≡ name
IsRefusalOf name (Journal line) = ⊥
IsRefusalOf name (Disk line) = ⊥
IsRefusalOf name Fault = ⊥
IsRefusalOf name NoMemory = ⊤

-- what stops a command whose file was not read
abbrev pub stop_at_fault : FileFault → Stop
stop_at_fault Failed = Fault
stop_at_fault NoneToRead = NoMemory

-- What a step that is done comes to: it gives this, and leaves these reads to come; the names read so far went on by its files.
pub record IsStepGiven {A : Type 0} (o : StepOutcome A) (rest : ReadsToCome) (old new : List (List ℕ)) (a : A) : Type 0 where
  pub given : o.given ≡ Ok a
  pub rests : o.rest ≡ rest
  pub names : new ≡ old ++ o.names

-- some of its files were read
abbrev pub AreBegun : {A : Type 0} → StepOutcome A → (old new : List (List ℕ)) → Type 0
AreBegun o old new = (names : List (List ℕ)) × (rest : List (List ℕ)) × (new ≡ old ++ names) × (o.names ≡ names ++ rest)

-- What stops a command at a step: the name that it refuses; or something failed, or memory ran out, when some of its files were read.
abbrev pub IsStopAt : {A : Type 0} → StepOutcome A → (old new : List (List ℕ)) → Stop → Type 0
IsStopAt o old new Usage = ⊥
IsStopAt o old new (Refused name) = (o.given ≡ Err (string_bytes name)) × (new ≡ old ++ o.names)
IsStopAt o old new (Journal line) = ⊥
IsStopAt o old new (Disk line) = ⊥
IsStopAt o old new Fault = AreBegun o old new
IsStopAt o old new NoMemory = AreBegun o old new

-- A step that was done or stopped: whatever is read after it, it comes to this at some reads, the ones that are told.
abbrev pub IsStep : {A T : Type 0} → (held : Option Contents) → (old new : List (List ℕ)) → FileStep A → (T → A) → Result T Stop → Type 0
IsStep held old new step value result = (rest : ReadsToCome) → AreTold held rest
    → (reads : ReadsToCome) × AreTold held reads
    × MatchResult result (λ x. IsStepGiven (step reads) rest old new (value x)) (IsStopAt (step reads) old new)

-- The same of what is decided without a read.
abbrev pub IsRefusedBy : {A : Type 0} → Result A (List ℕ) → Stop → Type 0
IsRefusedBy given Usage = ⊥
IsRefusedBy given (Refused name) = given ≡ Err (string_bytes name)
IsRefusedBy given (Journal line) = ⊥
IsRefusedBy given (Disk line) = ⊥
IsRefusedBy given Fault = ⊥
IsRefusedBy given NoMemory = ⊤

abbrev pub IsDecided : {A T : Type 0} → Result A (List ℕ) → (T → A) → Result T Stop → Type 0
IsDecided given value result = MatchResult result (λ x. given ≡ Ok (value x)) (IsRefusedBy given)

-- the owner of this name has this number
pub record IsOwnerAt (catalog : Catalog) (name : List ℕ) (o : ℕ) : Type 0 where
  pub place : position (λ owner. bytes_eq name owner.name) catalog.owners ≡ Some o
  pub within : o < length catalog.owners
  pub is : entry_named catalog name ≡ Ok (owner_entry_at catalog o)
