-- What a book is: a ledger, and the disks that keep its records.
use Rattle.std.specs.Prelude.{◌≡◌, ◌⊎◌, ℕ, ◌≤◌, List, [], ◌∷◌, ◌++◌, Option, None, Some, IfSome, ⊤}
use mathlib.Core.List.{IsPrefix}
use Rattle.fz_outside.specs.Faults.{HasRisen}
use Rattle.outside_disks.specs.Disks.{Trace, Shown, IsImageOf, Leaves, Passes, WhereTold}
use Rattle.outside_disks.specs.Stored.{Stored, one_stored, two_stored}
use Rattle.journal_records.specs.declared.records.Record.{Record}
use Rattle.journal_records.specs.declared.records.Header.{Header}
use Rattle.budget_journal.specs.Journals.{Stands, IsAtRest, IsBeforeOrAfter}
use Rattle.budget_core.specs.Legal.{MayFollow}
use Rattle.budget_core.specs.Ledger.{Ledger}
use Rattle.budget_core.specs.Sound.{IsSound}
pub use Rattle.budget_ledger.specs.declared.failure.Failure.{Failure}

-- A journal on one of two disks: its header, which of the book's records it has, and the append that failed, if one has. Then the disk is
-- dropped, and isn't touched again.
pub record Held : Type 0 where
  pub header : Header
  pub has : List Record
  pub closed : Option Failure

-- One of two disks: what it shows, and its journal. It has none where it was gone as the book was opened, and isn't touched then.
pub record Copy : Type 0 where
  pub shown : Shown
  pub held : Option Held

pub record Copies : Type 0 where
  pub first : Copy
  pub second : Copy

-- What a book's disk shows: the journal's header, what was done to it where that is told, how many calls have failed,
-- and the append that failed, if one has: how many calls had failed then, and its record. Of two disks each shows that for itself: as one
-- they tell nothing of what was done, and count no call but those that closed the book.
pub record Storage : Type 0 where
  pub header : Header
  pub trace : Option Trace
  pub faults : ℕ
  pub closed : Option Failure
  pub copies : Option Copies

pub record Account : Type 0 where
  pub ledger : Ledger
  pub storage : Storage

-- A stop now leaves the records. Where an append has failed it leaves them with that append's record, or without it.
abbrev pub IsKeptNow : Header → List Record → Option Failure → Trace → Type 0
IsKeptNow header records None t = IsAtRest header records t
IsKeptNow header records (Some failure) t = Leaves (IsBeforeOrAfter header records failure.pending) t

-- ---- two disks

-- the records, with the one whose append closed the book
abbrev pub with_closing : List Record → Option Failure → List Record
with_closing records None = records
with_closing records (Some failure) = records ++ failure.pending ∷ []

-- the count that closed a book
abbrev pub count_of : Option Failure → ℕ
count_of None = 0
count_of (Some failure) = failure.failed_at

-- What a journal on one of two disks has of a book with this header and these records, closed so or open: all while no append to it has
-- failed. Else it has those from before that append, which was the disk's last call, of the record that came next. Its version may be another.
pub record IsHeldCopy (common : Header) (records : List Record) (closed : Option Failure) (shown : Shown) (held : Held) : Type 0 where
  pub header : held.header ≡ record common { version = held.header.version }
  pub begins : IsPrefix held.has records
  pub whole : held.closed ≡ None → held.has ≡ records
  pub kept : IfSome shown.trace (IsKeptNow held.header held.has held.closed)
  pub failed : (failure : Failure) → held.closed ≡ Some failure → failure.failed_at ≡ shown.faults
  pub follows : (failure : Failure) → held.closed ≡ Some failure → IsPrefix (held.has ++ failure.pending ∷ []) (with_closing records closed)

abbrev pub IsCopy : Header → List Record → Option Failure → Copy → Type 0
IsCopy header records closed copy = IfSome copy.held (IsHeldCopy header records closed copy.shown)

-- a disk to which no append has failed
abbrev pub IsInUse : Copy → Type 0
IsInUse copy = (held : Held) × (copy.held ≡ Some held) × (held.closed ≡ None)

-- the append that closed the book failed on this disk, which had all records
abbrev pub HasShut : List Record → Failure → Copy → Type 0
HasShut records failure copy = (held : Held) × (copy.held ≡ Some held) × (held.closed ≡ Some failure) × (held.has ≡ records)

-- What holds of a book's two disks: each has some first ones of the records. While the book is open one is in use. Once it is closed none is,
-- and the append that closed it is one that failed last.
pub record AreCopies (records : List Record) (storage : Storage) (copies : Copies) : Type 0 where
  pub untold : storage.trace ≡ None
  pub counted : storage.faults ≡ count_of storage.closed
  pub first : IsCopy storage.header records storage.closed copies.first
  pub second : IsCopy storage.header records storage.closed copies.second
  pub in_use : storage.closed ≡ None → IsInUse copies.first ⊎ IsInUse copies.second
  pub out : (failure : Failure) → storage.closed ≡ Some failure → (IsInUse copies.first → ⊥) × (IsInUse copies.second → ⊥)
  pub shut : (failure : Failure) → storage.closed ≡ Some failure → HasShut records failure copies.first ⊎ HasShut records failure copies.second

-- what is kept in a bay of what a book's disks show
abbrev pub stored_with : Option Trace → (faults : ℕ) → Option Copies → Stored
stored_with trace faults None = one_stored (record { trace = trace; faults = faults })
stored_with trace faults (Some copies) = two_stored (record { first = copies.first.shown; second = copies.second.shown })

abbrev pub stored_by : Storage → Stored
stored_by storage = stored_with storage.trace storage.faults storage.copies

-- ---- a book

-- What holds of every book: its ledger is sound, its journal has the entry's budget, capacity and version and keeps the records,
-- and an append that failed was the disk's last call, of a record that might follow.
pub record IsBook (account : Account) : Type 0 where
  pub sound : IsSound account.ledger
  pub budget : account.storage.header.budget ≡ account.ledger.entry.budget
  pub capacity : account.storage.header.capacity ≡ account.ledger.entry.capacity
  pub version : account.storage.header.version ≡ account.ledger.entry.version
  pub kept : IfSome account.storage.trace (IsKeptNow account.storage.header account.ledger.records account.storage.closed)
  pub failed : (failure : Failure) → account.storage.closed ≡ Some failure → failure.failed_at ≡ account.storage.faults
  pub follows : (failure : Failure) → account.storage.closed ≡ Some failure → MayFollow account.ledger.entry account.ledger.records failure.pending
  pub copies : IfSome account.storage.copies (AreCopies account.ledger.records account.storage)

-- ---- from one state of a book to a later one

-- These bytes stand for some first ones of the new records, with the old ones among them. Where an append has failed
-- they may stand for the new records and that append's.
abbrev pub IsMoment : Header → (old new : List Record) → Option Failure → List ℕ → Type 0
IsMoment header old new closed bytes =
    ((g : List Record) × IsPrefix old g × IsPrefix g new × Stands header g bytes)
    ⊎ ((failure : Failure) × (closed ≡ Some failure) × Stands header (new ++ failure.pending ∷ []) bytes)

-- Each file that a stop since t may have left is one that a stop at t left, or such a moment.
abbrev pub HasPassed : Header → (old new : List Record) → Option Failure → Trace → Trace → Type 0
HasPassed header old new closed t u = Passes (λ bytes. IsImageOf t bytes ⊎ IsMoment header old new closed bytes) t u

-- From one state of a journal on one of two disks to a later one, or the same, as `Went` has it of a book: by the records that it has.
pub record HeldWent (before after : Shown) (was is : Held) : Type 0 where
  pub header : is.header ≡ was.header
  pub begins : IsPrefix was.has is.has
  pub moments : WhereTold (HasPassed was.header was.has is.has is.closed) before.trace after.trace
  pub counts : before.faults ≤ after.faults
  pub shut : (failure : Failure) → was.closed ≡ Some failure → (after ≡ before) × (is ≡ was)
  pub «open» : is.closed ≡ None → after.faults ≡ before.faults
  pub failed : (failure : Failure) → was.closed ≡ None → is.closed ≡ Some failure
      → HasRisen before.faults after.faults × (failure.failed_at ≡ after.faults)

-- The same of one of two disks: where it was gone it stays as it is.
abbrev pub CopyWentBy : (before after : Shown) → Option Held → Option Held → Type 0
CopyWentBy before after None None = after ≡ before
CopyWentBy before after None (Some is) = ⊥
CopyWentBy before after (Some was) None = ⊥
CopyWentBy before after (Some was) (Some is) = HeldWent before after was is

abbrev pub CopyWent : (before after : Copy) → Type 0
CopyWent before after = CopyWentBy before.shown after.shown before.held after.held

-- One disk stays one and two stay two, each of which goes on so.
abbrev pub EachCopyWent : (before after : Option Copies) → Type 0
EachCopyWent None None = ⊤
EachCopyWent None (Some after) = ⊥
EachCopyWent (Some before) None = ⊥
EachCopyWent (Some before) (Some after) = CopyWent before.first after.first × CopyWent before.second after.second

-- From one state of a book to a later one, or the same: no record is lost, every stop leaves such a moment, a book that is
-- closed stays as it is, and one that isn't closed hasn't failed.
pub record Went (old new : List Record) (before after : Storage) : Type 0 where
  pub header : after.header ≡ before.header
  pub begins : IsPrefix old new
  pub moments : WhereTold (HasPassed before.header old new after.closed) before.trace after.trace
  pub counts : before.faults ≤ after.faults
  pub shut : (failure : Failure) → before.closed ≡ Some failure → (after ≡ before) × (new ≡ old)
  pub «open» : after.closed ≡ None → after.faults ≡ before.faults
  pub failed : (failure : Failure) → before.closed ≡ None → after.closed ≡ Some failure
      → HasRisen before.faults after.faults × (failure.failed_at ≡ after.faults)
  pub copies : EachCopyWent before.copies after.copies
