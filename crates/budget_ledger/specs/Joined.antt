-- What the parts of an opening of two disks give one another.
use Rattle.std.specs.Prelude.{◌≡◌, ◌⊎◌, ℕ, ◌≤◌, false, List, length, take, Option, None, IfSome, ⊤, All}
use Rattle.outside_disks.specs.Disks.{Trace, WhereTold}
use Rattle.journal_records.specs.Encoding.{IsValid}
use Rattle.journal_records.specs.declared.records.Record.{Record}
use Rattle.journal_records.specs.declared.records.Header.{Header}
use Rattle.budget_journal.specs.declared.journal.Journal.{Journal}
use Rattle.budget_journal.specs.declared.opening.OpenFault.TheVariants.{Damaged, NoMemory as Wanting}
use Rattle.budget_journal.specs.Journals.{Found, IsMarked, disk_of, used, is_closed, capacity_of, mark_of, version_of}
use Rattle.budget_core.specs.declared.answers.FoundFault.{FoundFault}
use Rattle.budget_core.specs.declared.answers.FoundFault.TheVariants.{Astray, NoMemory}
use Rattle.budget_core.specs.Entries.{Entry}
use Rattle.budget_ledger.specs.declared.both.BothFault.{BothFault}
use Rattle.budget_ledger.specs.declared.both.BothFault.TheVariants.{Refused}
use Rattle.budget_ledger.specs.declared.both.Sight.{Sight}
use Rattle.budget_ledger.specs.declared.both.Sight.TheVariants as sight
use Rattle.budget_ledger.specs.declared.both.Joined.{Joined}
use Rattle.budget_ledger.specs.declared.halves.Side.{Side}
use Rattle.budget_ledger.specs.declared.halves.Half.{Half}
use Rattle.budget_ledger.specs.declared.halves.Half.TheVariants as half
use Rattle.budget_ledger.specs.declared.halves.Store.TheVariants.{Two}
use Rattle.budget_ledger.specs.Account.{Account, HeldWent}
use Rattle.budget_ledger.specs.Kept.{HoldsSide, shown_on, held_on, storage_in}
use Rattle.budget_ledger.specs.Both.{Reading, IsReading, IsLeft}
use Rattle.budget_ledger.specs.Both.Reading.{Missing, Holding, Unfit}

module _ {D : Type 0} where
  -- ---- what was found on a disk

  abbrev pub reading_in : Sight D → Reading
  reading_in (sight.Gone disk empty) = Missing empty
  reading_in (sight.Has journal records) = Holding (version_of journal) records.items
  reading_in (sight.Unfit disk fault) = Unfit fault

  abbrev pub disk_under : Sight D → D
  disk_under (sight.Gone disk empty) = disk
  disk_under (sight.Has journal records) = disk_of journal
  disk_under (sight.Unfit disk fault) = disk

  abbrev pub HasRoom : Header → Sight D → Type 0
  HasRoom header (sight.Has journal records) = length records.items ≤ header.capacity
  HasRoom header other = ⊤

  -- ---- one of two disks of a book

  -- a journal that was just read
  abbrev pub side_of : Header → Journal D → (has : ℕ) → Half D
  side_of header journal has =
      half.Kept (record { journal = journal; header = record header { version = version_of journal }; has = has; failure = None })

  abbrev pub half_of : Header → Sight D → Half D
  half_of header (sight.Gone disk empty) = half.Gone disk
  half_of header (sight.Has journal records) = side_of header journal (length records.items)
  half_of header (sight.Unfit disk fault) = half.Gone disk

  -- its journal has this header, in whatever version
  abbrev pub IsHalfOf : Header → Half D → Type 0
  IsHalfOf header (half.Gone disk) = ⊤
  IsHalfOf header (half.Kept side) = side.header ≡ record header { version = side.header.version }

  -- its journal has them all, and no append to it has failed
  abbrev pub IsWholeHalf : List Record → Half D → Type 0
  IsWholeHalf records (half.Gone disk) = ⊥
  IsWholeHalf records (half.Kept side) = (side.has ≡ length records) × (side.failure ≡ None)

-- what is answered where records make no ledger
abbrev pub unfit_by : FoundFault → BothFault
unfit_by (Astray slot) = Refused (Damaged slot)
unfit_by NoMemory = Refused Wanting

module _ {D : Type 0} (trace : D → Option Trace) (faults : D → ℕ) where
  -- A journal was read: its disk was synced, and has these records.
  pub record IsRead (header : Header) (disk : D) (journal : Journal D) (records : List Record) : Type 0 where
    pub found : WhereTold (Found (record header { version = version_of journal }) records) (trace disk) (trace (disk_of journal))
    pub marked : IfSome (trace (disk_of journal)) (IsMarked (mark_of journal) (record header { version = version_of journal }) records)
    pub ready : is_closed journal ≡ false
    pub counted : used journal ≡ length records
    pub capacity : capacity_of journal ≡ header.capacity
    pub room : length records ≤ header.capacity
    pub valid : All IsValid records
    pub passed : faults (disk_of journal) ≡ faults disk

  abbrev pub IsSight : Header → D → Sight D → Type 0
  IsSight header disk (sight.Gone now empty) =
      IsReading header (shown_on trace faults disk) (shown_on trace faults now) (Missing empty) × IsLeft (shown_on trace faults disk) (shown_on trace faults now)
  IsSight header disk (sight.Has journal records) = IsRead header disk journal records.items
  IsSight header disk (sight.Unfit now fault) =
      IsReading header (shown_on trace faults disk) (shown_on trace faults now) (Unfit fault) × IsLeft (shown_on trace faults disk) (shown_on trace faults now)

  -- A journal that was just read has the first ones of these records.
  pub record IsFresh (records : List Record) (side : Side D) : Type 0 where
    pub unfailed : side.failure ≡ None
    pub holds : HoldsSide trace faults side.header (take side.has records) None side
    pub short : side.has ≤ length records
    pub room : length records ≤ capacity_of side.journal

  abbrev pub IsFreshHalf : List Record → Half D → Type 0
  IsFreshHalf records (half.Gone disk) = ⊤
  IsFreshHalf records (half.Kept side) = IsFresh records side

  -- Two disks of which one has them all.
  pub record AreFresh (header : Header) (joined : Joined D) : Type 0 where
    pub first : IsFreshHalf joined.records.items joined.first
    pub second : IsFreshHalf joined.records.items joined.second
    pub of_first : IsHalfOf header joined.first
    pub of_second : IsHalfOf header joined.second
    pub whole : IsWholeHalf joined.records.items joined.first ⊎ IsWholeHalf joined.records.items joined.second
    pub room : length joined.records.items ≤ header.capacity
    pub valid : All IsValid joined.records.items

  -- A journal from before it got what it lacked to afterwards, as far as its disk went along.
  abbrev pub SideLevelled : List Record → (old new : Side D) → Type 0
  SideLevelled records old new = HeldWent (shown_on trace faults (disk_of old.journal)) (shown_on trace faults (disk_of new.journal))
      (held_on trace faults (take old.has records) old) (held_on trace faults records new)

  abbrev pub HalfLevelled : List Record → (old new : Half D) → Type 0
  HalfLevelled records (half.Gone disk) (half.Gone still) = still ≡ disk
  HalfLevelled records (half.Gone disk) (half.Kept side) = ⊥
  HalfLevelled records (half.Kept side) (half.Gone disk) = ⊥
  HalfLevelled records (half.Kept old) (half.Kept new) = SideLevelled records old new

  -- the book of what two disks make
  pub record IsJudged (entry : Entry) (header : Header) (joined : Joined D) (book : Account) : Type 0 where
    pub first : Half D
    pub second : Half D
    pub ledger : book.ledger ≡ record { entry = record entry { version = joined.version }; found = joined.records.items; records = joined.records.items }
    pub storage : book.storage ≡ storage_in trace faults joined.records.items (record header { version = joined.version }) (Two first second) None
    pub went_first : HalfLevelled joined.records.items joined.first first
    pub went_second : HalfLevelled joined.records.items joined.second second
