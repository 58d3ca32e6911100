-- What the owners' disks show, and what becomes of them.
use Rattle.std.specs.Prelude.{◌≡◌, ◌⊎◌, ℕ, ◌<◌, ◌≤◌, List, Option, None, Some, IfSome, IsSome, option_and_then, option_map, ⊤}
use mathlib.Core.List.{IsPrefix}
use Rattle.fz_outside.specs.Faults.{HasRisen}
use Rattle.outside_disks.specs.Disks.{Passes, Shown, Trace, WhereTold, noted, seen_of}
use Rattle.outside_disks.specs.Disks.Step.{Synced}
use Rattle.outside_disks.specs.Stored.{EachTwin, HasCountRisen, Stored, Twins}
use Rattle.journal_records.specs.declared.records.Header.{Header}
use Rattle.journal_records.specs.declared.records.Record.{Record}
use Rattle.budget_journal.specs.Journals.{IsAtRest, MayHaveSynced, Stands}
use Rattle.budget_ledger.specs.Both.{HaveFailed, HoldsBytes, IsLeft}
use Rattle.owner_catalog.specs.Limits.{owner_limit}

-- what each owner's disks show while they are at home, by the owner's number
abbrev pub Shelf : Type 0
Shelf = ℕ → Option Stored

abbrev pub trace_of : Option Stored → Option Trace
trace_of stored = option_and_then (λ (s : Stored). s.trace) stored

abbrev pub trace_on : Shelf → (o : ℕ) → Option Trace
trace_on shelf o = trace_of (shelf o)

-- The bytes on an owner's disk, where it tells them. Of a disk that doesn't, it isn't said what it holds: any bytes. Two disks tell
-- theirs each for itself.
abbrev pub bytes_of : Option Stored → Option (List ℕ)
bytes_of stored = option_map seen_of (trace_of stored)

abbrev pub bytes_on : Shelf → (o : ℕ) → Option (List ℕ)
bytes_on shelf o = bytes_of (shelf o)

-- the two disks of an owner that has two
abbrev pub both_of : Option Stored → Option Twins
both_of stored = option_and_then (λ (s : Stored). s.twins) stored

abbrev pub both_on : Shelf → (o : ℕ) → Option Twins
both_on shelf o = both_of (shelf o)

-- two disks that both tell their bytes
abbrev pub BothTell : Option Twins → Type 0
BothTell None = ⊥
BothTell (Some twins) = IsSome twins.first.trace × IsSome twins.second.trace

-- the first owners' disks tell their bytes
abbrev pub TellBytes : (owners : ℕ) → Shelf → Type 0
TellBytes owners shelf = (o : ℕ) → o < owners → IsSome (bytes_on shelf o) ⊎ BothTell (both_on shelf o)

-- The bay has a disk at home for each owner that a catalog may have.
abbrev pub AreAtHome : (owners : ℕ) → Shelf → Type 0
AreAtHome owners shelf = (o : ℕ) → o < owner_limit → (o < owners) × IsSome (shelf o)

-- Each of the first owners' disks that was at home is so again, and went on like this; those of others are as they were.
pub record EachDisk (owners : ℕ) (Goes : (o : ℕ) → Stored → Stored → Type 0) (old new : Shelf) : Type 0 where
  pub owned : (o : ℕ) (before : Stored) → o < owners → old o ≡ Some before → (after : Stored) × (new o ≡ Some after) × Goes o before after
  pub others : (o : ℕ) → owners ≤ o → new o ≡ old o

-- One owner's disk, which was at home, is so again, and went on like this; the others are as they were.
pub record OneDisk (o : ℕ) (Goes : Stored → Stored → Type 0) (old new : Shelf) : Type 0 where
  pub here : (before : Stored) → old o ≡ Some before → (after : Stored) × (new o ≡ Some after) × Goes before after
  pub elsewhere : (p : ℕ) → (p ≡ o → ⊥) → new p ≡ old p

-- ---- nothing was written

-- One of two disks got the records that it lacked and the other has, if any: a stop meanwhile leaves some first ones of these, among
-- them those that it had, and now all of them, unless a call of it failed.
pub record IsLevelled (other before after : Shown) : Type 0 where
  pub header : Header
  pub version : ℕ
  pub has : List Record
  pub all : List Record
  pub begins : IsPrefix has all
  pub stood : HoldsBytes (Stands header has) before
  pub by_other : (all ≡ has) ⊎ HoldsBytes (Stands (record header { version = version }) all) other
  pub moments : WhereTold (Passes (λ bytes. (g : List Record) × IsPrefix has g × IsPrefix g all × Stands header g bytes)) (noted Synced before.trace) after.trace
  pub kept : IfSome after.trace (IsAtRest header all) ⊎ HasRisen before.faults after.faults
  pub counts : before.faults ≤ after.faults

-- One of two disks was synced, or that wasn't done or failed; or it got what it lacked.
abbrev pub IsTwinSynced : (other before after : Shown) → Type 0
IsTwinSynced other before after = IsLeft before after ⊎ IsLevelled other before after

-- Two disks stay two, and go on like this.
abbrev pub BothGo : (Twins → Twins → Type 0) → Option Twins → Option Twins → Type 0
BothGo Go None None = ⊤
BothGo Go (Some before) (Some after) = Go before after
BothGo Go None (Some after) = ⊥
BothGo Go (Some before) None = ⊥

abbrev pub AreSynced : Twins → Twins → Type 0
AreSynced before after = IsTwinSynced before.second before.first after.first × IsTwinSynced before.first before.second after.second

-- Nothing was written to the disk: it was synced, or that wasn't done or failed. Of two disks one may have been brought up to the other.
pub record IsOnlySynced (before after : Stored) : Type 0 where
  pub synced : MayHaveSynced before.trace after.trace
  pub counts : before.faults ≤ after.faults
  pub twins : BothGo AreSynced before.twins after.twins

-- Nothing was written to any owner's disk.
abbrev pub NothingWritten : (old new : Shelf) → Type 0
NothingWritten old new = (o : ℕ) (before : Stored) → old o ≡ Some before → (after : Stored) × (new o ≡ Some after) × IsOnlySynced before after

-- Nothing was written to the disk, nor to one of two: each was synced, or that wasn't done or failed.
pub record IsUnwritten (before after : Stored) : Type 0 where
  pub synced : MayHaveSynced before.trace after.trace
  pub counts : before.faults ≤ after.faults
  pub twins : EachTwin IsLeft before.twins after.twins

-- ---- counts of faults

-- Of two disks, the count of one stands still.
abbrev pub OneStands : Twins → Twins → Type 0
OneStands before after = (after.first.faults ≡ before.first.faults) ⊎ (after.second.faults ≡ before.second.faults)

-- the count of one disk stands still, or of two that of one
abbrev pub IsStanding : (before after : Stored) → Type 0
IsStanding before after = (after.faults ≡ before.faults) × BothGo OneStands before.twins after.twins

-- so it is of an owner's
abbrev pub StandsStill : (o : ℕ) → (old new : Shelf) → Type 0
StandsStill o old new = (before after : Stored) → old o ≡ Some before → new o ≡ Some after → IsStanding before after

-- no other owner's disk has a count that rose, nor have both of another owner's two
abbrev pub NoOtherRose : (o : ℕ) → (old new : Shelf) → Type 0
NoOtherRose o old new = (p : ℕ) → (p ≡ o → ⊥) → StandsStill p old new

-- some disk's count of faults rose
abbrev pub SomeRose : (old new : Shelf) → Type 0
SomeRose old new = (o : ℕ) × (before : Stored) × (after : Stored) × (old o ≡ Some before) × (new o ≡ Some after) × HasCountRisen before after

-- both failed, or one whose other is empty
abbrev pub AreGone : Option Twins → Option Twins → Type 0
AreGone (Some before) (Some after) = HaveFailed before after
AreGone before after = ⊥

-- The one disk's count rose, or of two disks none is left.
abbrev pub AreLost : (before after : Stored) → Type 0
AreLost before after = ((before.twins ≡ None) × HasRisen before.faults after.faults) ⊎ AreGone before.twins after.twins

-- some owner's disks are lost
abbrev pub SomeLost : (old new : Shelf) → Type 0
SomeLost old new = (o : ℕ) × (before : Stored) × (after : Stored) × (old o ≡ Some before) × (new o ≡ Some after) × AreLost before after
