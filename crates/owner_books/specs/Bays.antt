-- What is seen of a bay, and what stays of it through any work.
use Rattle.std.specs.Prelude.{◌≡◌, ◌⊎◌, ℕ, ◌≤◌, Result, Err, Vec}
use Rattle.std.specs.declared.alloc.Global.{Global}
use Rattle.fz_outside.specs.Faults.{HasRisen}
use Rattle.catalog_loading.specs.declared.stops.Stop.{Stop}
use Rattle.catalog_loading.specs.declared.stops.Stop.TheVariants.{Disk}
use Rattle.owner_books.specs.Shelves.{Shelf, SomeLost, SomeRose}

-- What each owner's disk shows while it is at home, how many owners it has, and how many calls have failed.
pub record BaySeen : Type 0 where
  pub shelf : Shelf
  pub owners : ℕ
  pub faults : ℕ

-- A bay has its owners, and its count of faults doesn't fall.
abbrev pub BayStays : (before after : BaySeen) → Type 0
BayStays before after = (after.owners ≡ before.owners) × (before.faults ≤ after.faults)

-- the same of what the trait tells
abbrev pub bay_in : {B : Type 0} → (B → Shelf) → (owners faults : B → ℕ) → B → BaySeen
bay_in shelf owners faults bay = record { shelf = shelf bay; owners = owners bay; faults = faults bay }

abbrev pub KeepsBay : {B : Type 0} → (B → Shelf) → (owners faults : B → ℕ) → (old new : B) → Type 0
KeepsBay shelf owners faults old new = BayStays (bay_in shelf owners faults old) (bay_in shelf owners faults new)

-- the bay's count of faults rose, or that of an owner's disk
abbrev pub DisksFailed : (before after : BaySeen) → Type 0
DisksFailed before after = HasRisen before.faults after.faults ⊎ SomeRose before.shelf after.shelf

-- The line of a disk comes only where the bay or an owner's disk failed.
abbrev pub HasDiskCause : {B T : Type 0} → (B → Shelf) → (owners faults : B → ℕ) → (old new : B) → Result T Stop → Type 0
HasDiskCause shelf owners faults old new result =
    (line : Vec ℕ Global) → result ≡ Err (Disk line) → DisksFailed (bay_in shelf owners faults old) (bay_in shelf owners faults new)

-- the bay's count of faults rose, or an owner's disks are lost
abbrev pub DisksLost : (before after : BaySeen) → Type 0
DisksLost before after = HasRisen before.faults after.faults ⊎ SomeLost before.shelf after.shelf

-- As a journal is opened, the line of a disk comes only where the bay failed, or the owner's one disk, or both of its two, or one whose
-- other is empty.
abbrev pub HasLostCause : {B T : Type 0} → (B → Shelf) → (owners faults : B → ℕ) → (old new : B) → Result T Stop → Type 0
HasLostCause shelf owners faults old new result =
    (line : Vec ℕ Global) → result ≡ Err (Disk line) → DisksLost (bay_in shelf owners faults old) (bay_in shelf owners faults new)
