-- A book that is opened on two disks, and journals that are made on two.
use Rattle.std.specs.Prelude.{◌≡◌, ◌≢◌, ◌⊎◌, ℕ, ◌<◌, ◌≤◌, ◌==◌, Bool, true, false, List, [], length, take, slice_get, Option, Some, None, IfSome, ⊤}
use mathlib.Core.List.{IsPrefix}
use Rattle.fz_outside.specs.Faults.{HasRisen, last_count}
use Rattle.outside_disks.specs.Disks.{Trace, Shown, WhereTold, seen_of}
use Rattle.outside_disks.specs.Stored.{Twins}
use Rattle.journal_records.specs.declared.records.Record.{Record}
use Rattle.journal_records.specs.declared.records.Header.{Header}
use Rattle.budget_journal.specs.declared.opening.OpenFault.{OpenFault}
use Rattle.budget_journal.specs.declared.opening.OpenFault.TheVariants.{NotInitialised, Damaged, DiskFault, NoMemory}
use Rattle.budget_journal.specs.declared.making.InitFault.{InitFault}
use Rattle.budget_journal.specs.declared.making.InitFault.TheVariants.{DiskFault as MakingFailed, AlreadyThere}
use Rattle.budget_journal.specs.Journals.{Stands, Found, IsAtRest, IsOpenFault, MayHaveSynced, TellsSome}
use Rattle.budget_journal.specs.Making.{MakesJournal, BeginsSome, AddsSteps}
use Rattle.budget_core.specs.Entries.{Entry}
use Rattle.budget_core.specs.Legal.{IsHistory, IsFirstAstray}
use Rattle.budget_ledger.specs.Account.{Copy, Copies, Account, CopyWent}
use Rattle.budget_ledger.specs.declared.both.BothFault.{BothFault}
use Rattle.budget_ledger.specs.declared.both.BothFault.TheVariants.{Refused, Forked, VersionsDiffer}

-- what two disks show, by what one shows
abbrev pub twins_of : {D : Type 0} → (trace : D → Option Trace) → (faults : D → ℕ) → (first second : D) → Twins
twins_of trace faults first second = record {
  first = record { trace = trace first; faults = faults first };
  second = record { trace = trace second; faults = faults second };
}

-- ---- what is found on each disk

-- What is found on one of two disks as it is opened: it is gone, since it is empty or a call on it failed; or it has records, in a
-- journal of this version; or this refuses it, and so both.
pub data Reading : Type 0 where
  Missing : (empty : Bool) → Reading
  Holding : (version : ℕ) (records : List Record) → Reading
  Unfit : (fault : OpenFault) → Reading

-- what refuses both: neither that the disk failed, nor that it is empty
abbrev pub RefusesBoth : OpenFault → Type 0
RefusesBoth DiskFault = ⊥
RefusesBoth (NotInitialised n) = n ≢ 0
RefusesBoth fault = ⊤

-- Its bytes have P, where they are told.
abbrev pub HoldsBytes : (List ℕ → Type 0) → Shown → Type 0
HoldsBytes P shown = IfSome shown.trace (λ t. P (seen_of t))

-- This is found on a disk that showed that before and after.
abbrev pub IsReading : Header → (before after : Shown) → Reading → Type 0
IsReading header before after (Missing true) = HoldsBytes (λ bytes. bytes ≡ []) before
IsReading header before after (Missing false) = HasRisen before.faults after.faults
IsReading header before after (Holding version records) = HoldsBytes (Stands (record header { version = version }) records) before
IsReading header before after (Unfit fault) = RefusesBoth fault × HoldsBytes (λ bytes. IsOpenFault header bytes fault) before

-- ---- what is made of two

-- Journals of these versions may stand side by side: in both the cost has the same rules.
abbrev pub AgreeOnCost : (version other : ℕ) → Type 0
AgreeOnCost version other = (version == 3) ≡ (other == 3)

-- the least slot below both lengths where the records differ
pub record IsFork (records others : List Record) (slot : ℕ) : Type 0 where
  pub within : slot < length records
  pub beside : slot < length others
  pub same : take slot records ≡ take slot others
  pub differ : slice_get records slot ≢ slice_get others slot

-- Two disks make these records, in this version: those of the one that is there, or the longer list, which begins with the shorter. Where both
-- are as long it is the first disk's.
abbrev pub Make : (first second : Reading) → (version : ℕ) → List Record → Type 0
Make (Holding v a) (Missing empty) version records = (version ≡ v) × (records ≡ a)
Make (Missing empty) (Holding w b) version records = (version ≡ w) × (records ≡ b)
Make (Holding v a) (Holding w b) version records = AgreeOnCost v w
    × ((IsPrefix b a × (version ≡ v) × (records ≡ a)) ⊎ (IsPrefix a b × (length a < length b) × (version ≡ w) × (records ≡ b)))
Make first second version records = ⊥

-- Why two disks make none: what refuses the first, or else what refuses the second; or both are gone; or they differ.
abbrev pub MakeNone : (first second : Reading) → BothFault → Type 0
MakeNone (Unfit f) second fault = fault ≡ Refused f
MakeNone (Missing empty) (Unfit g) fault = fault ≡ Refused g
MakeNone (Holding v a) (Unfit g) fault = fault ≡ Refused g
MakeNone (Missing true) (Missing true) fault = fault ≡ Refused (NotInitialised 0)
MakeNone (Missing true) (Missing false) fault = fault ≡ Refused DiskFault
MakeNone (Missing false) (Missing empty) fault = fault ≡ Refused DiskFault
MakeNone (Holding v a) (Holding w b) VersionsDiffer = AgreeOnCost v w → ⊥
MakeNone (Holding v a) (Holding w b) (Forked slot) = AgreeOnCost v w × IsFork a b slot
MakeNone (Holding v a) (Holding w b) (Refused f) = ⊥
MakeNone (Holding v a) (Missing empty) fault = ⊥
MakeNone (Missing empty) (Holding w b) fault = ⊥

-- why records that two disks make are no book's
abbrev pub AreUnfit : Entry → List Record → BothFault → Type 0
AreUnfit entry records (Refused (Damaged slot)) = IsFirstAstray entry records slot
AreUnfit entry records (Refused NoMemory) = ⊤
AreUnfit entry records fault = ⊥

-- Why the book of this entry and header isn't opened on two disks that showed this before and after.
pub record IsBothFault (entry : Entry) (header : Header) (before after : Twins) (fault : BothFault) : Type 0 where
  pub first : Reading
  pub second : Reading
  pub on_first : IsReading header before.first after.first first
  pub on_second : IsReading header before.second after.second second
  pub refused : MakeNone first second fault
      ⊎ ((version : ℕ) × (records : List Record) × Make first second version records × AreUnfit (record entry { version = version }) records fault)

-- Nothing was written to a disk: it was synced, or that failed.
pub record IsLeft (before after : Shown) : Type 0 where
  pub synced : MayHaveSynced before.trace after.trace
  pub counts : before.faults ≤ after.faults

abbrev pub AreLeft : (before after : Twins) → Type 0
AreLeft before after = IsLeft before.first after.first × IsLeft before.second after.second

-- Both disks have failed, or one has and the other is empty.
abbrev pub HaveFailed : (before after : Twins) → Type 0
HaveFailed before after =
    (HasRisen before.first.faults after.first.faults × HasRisen before.second.faults after.second.faults)
    ⊎ ((HasRisen before.first.faults after.first.faults × HoldsBytes (λ bytes. bytes ≡ []) before.second)
    ⊎ (HoldsBytes (λ bytes. bytes ≡ []) before.first × HasRisen before.second.faults after.second.faults))

-- ---- a book on two disks

-- a journal that was just read, on a disk that shows this
abbrev pub copy_read : Header → Shown → (version : ℕ) → List Record → Copy
copy_read header shown version records
    = record { shown = shown; held = Some (record { header = record header { version = version }; has = records; closed = None }) }

-- One disk of a book that was just opened. It is gone, and only synced; or it was synced and had these records, and went on from there.
abbrev pub IsOpenedCopy : Header → (before : Shown) → Reading → Copy → Type 0
IsOpenedCopy header before (Missing empty) copy = (copy.held ≡ None) × IsReading header before copy.shown (Missing empty) × IsLeft before copy.shown
IsOpenedCopy header before (Holding version records) copy = (read : Option Trace)
    × WhereTold (Found (record header { version = version }) records) before.trace read
    × CopyWent (copy_read header (record { trace = read; faults = before.faults }) version records) copy
IsOpenedCopy header before (Unfit fault) copy = ⊥

-- A book that was just opened on two disks that showed this before. The shorter journal got what it lacked, as far as its disk went along.
pub record IsOpenedBoth (entry : Entry) (header : Header) (before : Twins) (book : Account) : Type 0 where
  pub first : Reading
  pub second : Reading
  pub copies : Copies
  pub made : Make first second book.storage.header.version book.ledger.found
  pub ledger : book.ledger ≡ record {
    entry = record entry { version = book.storage.header.version };
    found = book.ledger.found;
    records = book.ledger.found;
  }
  pub storage : book.storage ≡ record {
    header = record header { version = book.storage.header.version };
    trace = None;
    faults = 0;
    closed = None;
    copies = Some copies;
  }
  pub on_first : IsOpenedCopy header before.first first copies.first
  pub on_second : IsOpenedCopy header before.second second copies.second

-- ---- laws

-- A disk tells that it has these records under the header in this version.
abbrev pub Tells : Header → (version : ℕ) → List Record → Shown → Type 0
Tells header version records shown = TellsSome (λ t. Stands (record header { version = version }) records (seen_of t)) shown.trace

-- Two disks of which one list begins the other, and the longer may follow, are refused for the disks or for want of memory alone.
abbrev pub BothOpenWhatStands : Type 0
BothOpenWhatStands = (entry : Entry) (header : Header) (before after : Twins) (v w : ℕ) (a b : List Record)
    → Tells header v a before.first → Tells header w b before.second → AgreeOnCost v w
    → (IsPrefix b a × IsHistory (record entry { version = v }) a) ⊎ (IsPrefix a b × IsHistory (record entry { version = w }) b)
    → (fault : BothFault) → IsBothFault entry header before after fault → (fault ≡ Refused DiskFault) ⊎ (fault ≡ Refused NoMemory)

-- its count of faults stood still below its last value
abbrev pub StoodStill : (before after : Shown) → Type 0
StoodStill before after = (after.faults ≡ before.faults) × (before.faults < last_count)

-- A book on two disks has all records of each disk whose count stood still as it was opened; and where both did, those of the longer list.
abbrev pub BothFindTheLonger : Type 0
BothFindTheLonger = (entry : Entry) (header : Header) (before : Twins) (book : Account) (copies : Copies) (v w : ℕ) (a b : List Record)
    → IsOpenedBoth entry header before book → book.storage.copies ≡ Some copies
    → Tells header v a before.first → Tells header w b before.second
    → (StoodStill before.first copies.first.shown → IsPrefix a book.ledger.found)
    × (StoodStill before.second copies.second.shown → IsPrefix b book.ledger.found)
    × (StoodStill before.first copies.first.shown → StoodStill before.second copies.second.shown
    → (book.ledger.found ≡ a) ⊎ (book.ledger.found ≡ b))

-- ---- journals that are made

-- A journal of no records was made on an empty disk: a stop leaves it and nothing else.
pub record HasMade (header : Header) (before after : Shown) : Type 0 where
  pub made : (t : Trace) → before.trace ≡ Some t → (seen_of t ≡ []) × TellsSome (IsAtRest header []) after.trace
  pub in_turn : WhereTold (AddsSteps (MakesJournal header)) before.trace after.trace
  pub still : after.faults ≡ before.faults

-- The making of a journal failed: its disk is given up.
pub record HasBroken (header : Header) (before after : Shown) : Type 0 where
  pub begun : WhereTold (AddsSteps (BeginsSome (MakesJournal header))) before.trace after.trace
  pub risen : HasRisen before.faults after.faults
  pub later : before.faults ≤ after.faults

-- Nothing was done to a disk.
pub record IsUntouched (before after : Shown) : Type 0 where
  pub same : after.trace ≡ before.trace
  pub later : before.faults ≤ after.faults

-- Why journals weren't made on two disks: the first isn't empty, or it is and the second isn't, and nothing was done to either; or one failed.
-- The second is made after the first. (Of a disk that tells nothing it isn't known that it is as long as it was.)
abbrev pub IsBothInitFault : Header → (before after : Twins) → InitFault → Type 0
IsBothInitFault header before after (AlreadyThere n) = (n ≢ 0) × IsUntouched before.second after.second
    × ((HoldsBytes (λ bytes. n ≡ length bytes) before.first × IsUntouched before.first after.first)
    ⊎ (HoldsBytes (λ bytes. bytes ≡ []) before.first × HoldsBytes (λ bytes. n ≡ length bytes) before.second
    × IfSome before.second.trace (λ t. IsUntouched before.first after.first)))
IsBothInitFault header before after MakingFailed =
    (HasBroken header before.first after.first × IsUntouched before.second after.second)
    ⊎ (HasBroken header before.second after.second × (IsUntouched before.first after.first ⊎ HasMade header before.first after.first))
