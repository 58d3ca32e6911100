-- What is seen of the outside, and what stays of it through any work.
use Rattle.std.specs.Prelude.{◌≡◌, ℕ, ◌<◌, ◌≤◌, List, length, map, Option}
use Rattle.fz_outside.specs.Faults.{HasRisen}
use Rattle.outside_links.specs.Links.{Connection}
use Rattle.service_workers.specs.Services.{Door, door_at, door_of}
use Rattle.catalog_loading.specs.Files.{Contents}
use Rattle.owner_books.specs.Bays.{BaySeen, BayStays, DisksFailed}

-- of files: what they hold, where it is told; the names that were read so far, in order; and how many calls have failed
pub record FilesSeen : Type 0 where
  pub held : Option Contents
  pub names : List (List ℕ)
  pub faults : ℕ

-- of a source: the bytes that are left, where they are told, and how many calls have failed
pub record SourceSeen : Type 0 where
  pub left : Option (List ℕ)
  pub faults : ℕ

-- of a sink: the bytes that were written so far, where they are told, and how many calls have failed
pub record SinkSeen : Type 0 where
  pub contents : Option (List ℕ)
  pub faults : ℕ

pub record Outside : Type 0 where
  pub files : FilesSeen
  pub bay : BaySeen
  pub source : SourceSeen
  pub sink : SinkSeen
  -- of the doors, in order: the connections that are to come and those that were handed back, where they are told, and how many calls
  -- have failed
  pub doors : List Door

-- What stays through any work: files hold what they held, a bay has its owners, there are as many doors, and no count of faults falls.
abbrev pub FilesStay : (before after : FilesSeen) → Type 0
FilesStay before after = (after.held ≡ before.held) × (before.faults ≤ after.faults)

abbrev pub DoorsStay : (before after : List Door) → Type 0
DoorsStay before after =
    (length after ≡ length before) × ((i : ℕ) → i < length before → (door_at before i).faults ≤ (door_at after i).faults)

-- some door's count of faults rose
abbrev pub SomeDoorRose : (before after : List Door) → Type 0
SomeDoorRose before after = (i : ℕ) × (i < length before) × HasRisen (door_at before i).faults (door_at after i).faults

abbrev pub Stays : (before after : Outside) → Type 0
Stays before after =
    FilesStay before.files after.files × BayStays before.bay after.bay × (before.source.faults ≤ after.source.faults) × (before.sink.faults ≤ after.sink.faults)
    × DoorsStay before.doors after.doors

-- the same of what the traits tell
abbrev pub files_in : {F : Type 0} → (F → Option Contents) → (F → List (List ℕ)) → (F → ℕ) → F → FilesSeen
files_in held names faults files = record { held = held files; names = names files; faults = faults files }

abbrev pub KeepsFiles : {F : Type 0} → (F → Option Contents) → (F → List (List ℕ)) → (F → ℕ) → (old new : F) → Type 0
KeepsFiles held names faults old new = FilesStay (files_in held names faults old) (files_in held names faults new)

abbrev pub doors_in : {O : Type 0} → (O → Option (List Connection)) → (O → Option (List Connection)) → (O → ℕ) → List O → List Door
doors_in coming served faults doors = map (λ d. door_of (coming d) (served d) (faults d)) doors

-- No call failed: no count of faults rose, of files, source, sink, the bay, an owner's disk or a door.
abbrev pub NoCallFailed : (before after : Outside) → Type 0
NoCallFailed before after =
    (HasRisen before.files.faults after.files.faults → ⊥) × (HasRisen before.source.faults after.source.faults → ⊥)
    × (HasRisen before.sink.faults after.sink.faults → ⊥) × (DisksFailed before.bay after.bay → ⊥)
    × (SomeDoorRose before.doors after.doors → ⊥)
