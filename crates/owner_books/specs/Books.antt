-- What the code's books and passes are of the owners' disks.
use Rattle.std.specs.Prelude.{◌≡◌, ℕ, ◌<◌, ◌≤◌, List, [], length, Option, Some, None, IfSome, ⊤}
use Rattle.outside_disks.specs.Disks.{WhereTold}
use Rattle.outside_disks.specs.Stored.{Stored, Twins}
use Rattle.journal_records.specs.declared.records.Header.{Header}
use Rattle.budget_journal.specs.Journals.{Found}
use Rattle.budget_core.specs.Entries.{Entry}
use Rattle.budget_core.specs.Legal.{IsHistory}
use Rattle.budget_ledger.specs.Account.{Account, Copies, IsBook, Went, stored_by}
use Rattle.budget_ledger.specs.Both.{IsOpenedBoth}
use Rattle.budget_ledger.specs.declared.both.BothFault.{BothFault}
use Rattle.budget_ledger.specs.declared.both.BothFault.TheVariants as both_fault
use Rattle.owner_desk.specs.Passes.{Pass, ledger_on}
use Rattle.session_core.specs.Code.{IsClosedWith, fresh_pass, pass_at}
use Rattle.catalog_loading.specs.Loaded.{Loading, new_header, new_entry, owner_name_at}
use Rattle.owner_books.specs.Shelves.{Shelf, OneDisk, IsOnlySynced}
use Rattle.owner_books.specs.Opened.{IsDiskNamed, IsRefusedAt, IsUnopened, IsUnwrittenAt}
use Rattle.owner_books.specs.Refusals.{disk_text, journal_text}
use Rattle.owner_books.specs.declared.refusals.JournalRefusal.{JournalRefusal}
use Rattle.owner_books.specs.declared.refusals.JournalRefusal.TheVariants.{Uninitialised, Changed, Damaged, Forked}
use Rattle.budget_journal.specs.declared.opening.OpenFault.{OpenFault}
use Rattle.budget_journal.specs.declared.opening.OpenFault.TheVariants as open_fault
use Rattle.catalog_loading.specs.declared.stops.Stop.{Stop}
use Rattle.catalog_loading.specs.declared.stops.Stop.TheVariants.{Journal, Disk, NoMemory}

-- A book has one disk where one showed this, and two where two did: then it was opened on both.
abbrev pub IsOnBoth : Entry → Header → Account → (before : Option Twins) → Option Copies → Type 0
IsOnBoth entry header book None None = ⊤
IsOnBoth entry header book None (Some copies) = ⊥
IsOnBoth entry header book (Some before) copies = IsOpenedBoth entry header before book

-- A book that was just opened on a disk that showed this, or on two.
pub record IsNewBook (entry : Entry) (header : Header) (before : Option Stored) (book : Account) : Type 0 where
  pub of_entry : book.ledger.entry ≡ entry
  pub fresh : book.ledger.records ≡ book.ledger.found
  pub of_header : book.storage.header ≡ header
  pub unclosed : book.storage.closed ≡ None
  pub history : IsHistory entry book.ledger.found
  pub on : IfSome before (λ b. WhereTold (Found header book.ledger.found) b.trace book.storage.trace × (book.storage.faults ≡ b.faults))
  pub on_both : IfSome before (λ b. IsOnBoth entry header book b.twins book.storage.copies)
  pub sound : IsBook book

-- A book was opened: its owner's disk is taken. Or it wasn't, and the disk is at home again, with nothing written.
abbrev pub TookDisk : (o : ℕ) → (old new : Shelf) → Type 0
TookDisk o old new = (new o ≡ None) × ((p : ℕ) → (p ≡ o → ⊥) → new p ≡ old p)

abbrev pub LeftDisk : (o : ℕ) → (old new : Shelf) → Type 0
LeftDisk o old new = OneDisk o IsOnlySynced old new

-- the line of a disk or of a journal, or memory ran out
abbrev pub IsDiskStop : (owner : List ℕ) → Stop → Type 0
IsDiskStop owner (Disk line) = line.items ≡ disk_text owner
IsDiskStop owner NoMemory = ⊤
IsDiskStop owner stop = ⊥

abbrev pub IsJournalStop : (owner : List ℕ) → JournalRefusal → Stop → Type 0
IsJournalStop owner refusal (Journal line) = line.items ≡ journal_text owner refusal
IsJournalStop owner refusal NoMemory = ⊤
IsJournalStop owner refusal stop = ⊥

-- what stops a command where a journal isn't opened for this
abbrev pub IsBookFaultStop : (owner : List ℕ) → OpenFault → Stop → Type 0
IsBookFaultStop owner open_fault.DiskFault stop = IsDiskStop owner stop
IsBookFaultStop owner open_fault.NoMemory stop = stop ≡ NoMemory
IsBookFaultStop owner (open_fault.NotInitialised n) stop = IsJournalStop owner (Uninitialised n) stop
IsBookFaultStop owner (open_fault.Changed kept found) stop = IsJournalStop owner Changed stop
IsBookFaultStop owner (open_fault.Damaged slot) stop = IsJournalStop owner (Damaged slot) stop

-- the same of two disks
abbrev pub IsBothFaultStop : (owner : List ℕ) → BothFault → Stop → Type 0
IsBothFaultStop owner (both_fault.Refused fault) stop = IsBookFaultStop owner fault stop
IsBothFaultStop owner (both_fault.Forked slot) stop = IsJournalStop owner (Forked slot) stop
IsBothFaultStop owner both_fault.VersionsDiffer stop = IsJournalStop owner Changed stop

-- why the book of an owner of this name, entry and header wasn't opened on disks that showed this before and now
abbrev pub IsUnopenedStop : (owner : List ℕ) → Entry → Header → (before now : Option Stored) → Stop → Type 0
IsUnopenedStop owner entry header before now (Journal line) =
    (refusal : JournalRefusal) × IsUnopened entry header before now refusal × IsUnwrittenAt before now × (line.items ≡ journal_text owner refusal)
IsUnopenedStop owner entry header before now (Disk line) = line.items ≡ disk_text owner
IsUnopenedStop owner entry header before now NoMemory = ⊤
IsUnopenedStop owner entry header before now stop = ⊥

-- the same of an owner of a house
abbrev pub IsBookStop : Loading → (key : List ℕ) → (old new : Shelf) → (o : ℕ) → Stop → Type 0
IsBookStop loading key old new o stop =
    IsUnopenedStop (owner_name_at loading o) (new_entry loading o) (new_header loading key o) (old o) (new o) stop

-- why not all books were opened
abbrev pub IsOpenStop : Loading → (key : List ℕ) → (old new : Shelf) → Stop → Type 0
IsOpenStop loading key old new (Journal line) = (o : ℕ) × (refusal : JournalRefusal) × IsRefusedAt loading key old new o refusal
    × (line.items ≡ journal_text (owner_name_at loading o) refusal)
IsOpenStop loading key old new (Disk line) = IsDiskNamed loading key old new line.items
IsOpenStop loading key old new NoMemory = ⊤
IsOpenStop loading key old new stop = ⊥

-- A pass on which nothing was done yet, on a book that was just opened on a disk that showed this, or on two.
pub record IsNewPass (entry : Entry) (header : Header) (before : Option Stored) (pass : Pass) : Type 0 where
  pub fresh : pass ≡ fresh_pass pass.opened
  pub book : IsNewBook entry header before pass.opened

-- The first owners' passes were just opened on their disks, which are taken; the others are as they were.
pub record ArePassesOn (entries : ℕ → Entry) (headers : ℕ → Header) (n : ℕ) (old new : Shelf) (passes : List Pass) : Type 0 where
  pub count : length passes ≡ n
  pub each : (o : ℕ) → o < n → IsNewPass (entries o) (headers o) (old o) (pass_at passes o)
  pub taken : (o : ℕ) → o < n → new o ≡ None
  pub others : (o : ℕ) → n ≤ o → new o ≡ old o

-- what a book shows of its disk, or of its two
abbrev pub shown_by : Account → Stored
shown_by book = stored_by book.storage

-- A pass was closed, and gave its book back: with the records found and the pass's own, and where that is none, as it was opened.
pub record GaveBook (pass : Pass) (book : Account) : Type 0 where
  pub ledger : book.ledger ≡ ledger_on pass.opened book.ledger.records
  pub closed : IsClosedWith pass book.ledger.records book.storage.closed
  pub went : Went pass.opened.ledger.records book.ledger.records pass.opened.storage book.storage
  pub untouched : pass.own ≡ [] → pass.faults ≡ [] → book.storage ≡ pass.opened.storage
  pub sound : IsBook book

-- The first owners' disks were put back as these books show them, which their passes gave; the others are as they were.
pub record ArePutBack (n : ℕ) (passes : List Pass) (books : ℕ → Account) (old new : Shelf) : Type 0 where
  pub each : (o : ℕ) → o < n → new o ≡ Some (shown_by (books o))
  pub gave : (o : ℕ) → o < n → GaveBook (pass_at passes o) (books o)
  pub others : (o : ℕ) → n ≤ o → new o ≡ old o
