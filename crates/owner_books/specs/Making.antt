-- What making the journals leaves of the disks.
use Rattle.std.specs.Prelude.{◌≡◌, ◌⊎◌, ◌<◌, ◌≤◌, ℕ, List, [], length, Option, None, Some, IfSome, ⊤}
use Rattle.outside_disks.specs.Disks.{Shown, Trace, seen_of}
use Rattle.outside_disks.specs.Stored.{EachTwin, HasCountRisen, Stored, Twins}
use Rattle.outside_bays.specs.Bays.{Same}
use Rattle.journal_records.specs.declared.records.Header.{Header}
use Rattle.budget_journal.specs.Journals.{IsAtRest, MayHaveSynced, TellsSome}
use Rattle.budget_ledger.specs.Both.{HoldsBytes, IsUntouched}
use Rattle.catalog_loading.specs.Loaded.{Loading, new_header, owner_name_at, owners_in}
use Rattle.owner_books.specs.Shelves.{BothGo, Shelf, both_of, bytes_of}
use Rattle.owner_books.specs.Books.{IsDiskStop, IsJournalStop}
use Rattle.owner_books.specs.Refusals.{disk_text, journal_text}
use Rattle.owner_books.specs.declared.refusals.JournalRefusal.TheVariants.{Exists}
use Rattle.catalog_loading.specs.declared.stops.Stop.{Stop}
use Rattle.catalog_loading.specs.declared.stops.Stop.TheVariants.{Journal, Disk, NoMemory}
use Rattle.budget_journal.specs.declared.making.InitFault.{InitFault}
use Rattle.budget_journal.specs.declared.making.InitFault.TheVariants.{AlreadyThere, DiskFault}

-- one of two disks on which a journal was made
pub record IsTwinMade (header : Header) (before after : Shown) : Type 0 where
  pub made : (t : Trace) → before.trace ≡ Some t → (seen_of t ≡ []) × TellsSome (IsAtRest header []) after.trace
  pub counts : after.faults ≡ before.faults

-- A journal was made on an empty disk: now a stop leaves a file of no records under this header, and no other. Or on two, each so.
pub record IsMade (header : Header) (before after : Stored) : Type 0 where
  pub made : (t : Trace) → before.trace ≡ Some t → (seen_of t ≡ []) × TellsSome (IsAtRest header []) after.trace
  pub counts : after.faults ≡ before.faults
  pub twins : EachTwin (IsTwinMade header) before.twins after.twins

-- Nothing was done to two disks. Of the first this is said where the second tells what it holds.
abbrev pub AreUntouched : Twins → Twins → Type 0
AreUntouched before after = IsUntouched before.second after.second × IfSome before.second.trace (λ t. IsUntouched before.first after.first)

-- Nothing was written to the disk, nor to one of two.
pub record IsNotMade (before after : Stored) : Type 0 where
  pub synced : MayHaveSynced before.trace after.trace
  pub counts : before.faults ≤ after.faults
  pub twins : BothGo AreUntouched before.twins after.twins

-- The disk at hand where the making was ended, or the two: nothing was written, or a count rose. Then a file may hold anything, and is
-- given up. Two stay two.
abbrev pub MayHaveFailed : (before after : Stored) → Type 0
MayHaveFailed before after = (before.faults ≤ after.faults) × (IsNotMade before after ⊎ HasCountRisen before after)
    × BothGo (λ b a. ⊤) before.twins after.twins

-- The journals of the owners before this one are made, its disk went on like this, and those behind it are as they were.
pub record AreMadeBefore (loading : Loading) (key : List ℕ) (o : ℕ) (Goes : Stored → Stored → Type 0) (old new : Shelf) : Type 0 where
  pub made : (p : ℕ) (before : Stored) → p < o → old p ≡ Some before → (after : Stored) × (new p ≡ Some after) × IsMade (new_header loading key p) before after
  pub here : (before : Stored) → old o ≡ Some before → (after : Stored) × (new o ≡ Some after) × Goes before after
  pub behind : (p : ℕ) → o < p → new p ≡ old p

-- What an `init` may leave that was ended by a failure or for want of memory: all disks as they were; or the journals of the owners
-- before one are made, and nothing was written to its disk, or it failed.
abbrev pub MayBeMadeInPart : Loading → (key : List ℕ) → (old new : Shelf) → Type 0
MayBeMadeInPart loading key old new = Same old new ⊎ ((o : ℕ) × (o < owners_in loading) × AreMadeBefore loading key o MayHaveFailed old new)

-- The line names the owner whose disk failed as its journal was to be made: those of the owners before it are made.
abbrev pub IsMakingNamed : Loading → (key : List ℕ) → (old new : Shelf) → (text : List ℕ) → Type 0
IsMakingNamed loading key old new text =
    (o : ℕ) × (o < owners_in loading) × (text ≡ disk_text (owner_name_at loading o)) × AreMadeBefore loading key o MayHaveFailed old new

-- A disk was at home, and is so again; what it shows went on like this.
abbrev pub Turned : (Goes : Stored → Stored → Type 0) → (old new : Option Stored) → Type 0
Turned Goes (Some before) (Some after) = Goes before after
Turned Goes (Some before) None = ⊥
Turned Goes None new = ⊥

-- Of two disks one isn't empty, and has this length: the first, or else the second.
abbrev pub IsTwinThere : ℕ → Option Twins → Type 0
IsTwinThere n None = ⊤
IsTwinThere n (Some twins) = HoldsBytes (λ bytes. length bytes ≡ n) twins.first
    ⊎ (HoldsBytes (λ bytes. bytes ≡ []) twins.first × HoldsBytes (λ bytes. length bytes ≡ n) twins.second)

-- A disk has this length, or one of two has it.
abbrev pub IsThere : ℕ → Option Stored → Type 0
IsThere n stored = IfSome (bytes_of stored) (λ bytes. length bytes ≡ n) × IsTwinThere n (both_of stored)

-- Why no journal was made on a disk, or on two: it isn't empty, and nothing was done to it; or the bay failed and it wasn't taken, or a
-- count rose.
abbrev pub IsUnmade : InitFault → (before after : Stored) → Type 0
IsUnmade (AlreadyThere n) before after = (1 ≤ n) × IsThere n (Some before) × IsNotMade before after
IsUnmade DiskFault before after = MayHaveFailed before after

-- what stops a command where no journal was made for this
abbrev pub IsUnmadeStop : (owner : List ℕ) → InitFault → Stop → Type 0
IsUnmadeStop owner (AlreadyThere n) stop = IsJournalStop owner (Exists n) stop
IsUnmadeStop owner DiskFault stop = IsDiskStop owner stop

-- What stops the making of journals: an owner's disk isn't empty, or failed; or memory ran out.
abbrev pub IsMakeStop : Loading → (key : List ℕ) → (old new : Shelf) → Stop → Type 0
IsMakeStop loading key old new (Journal line) = (o : ℕ) × (n : ℕ) × (o < owners_in loading) × (1 ≤ n)
    × IsThere n (old o) × (line.items ≡ journal_text (owner_name_at loading o) (Exists n))
    × AreMadeBefore loading key o IsNotMade old new
IsMakeStop loading key old new (Disk line) = IsMakingNamed loading key old new line.items
IsMakeStop loading key old new NoMemory = MayBeMadeInPart loading key old new
IsMakeStop loading key old new stop = ⊥
