-- What a pass knows of its owner's book.
use Rattle.std.specs.Prelude.{◌≡◌, ℕ, List, [], ◌∷◌, length, drop, map, Option, Some, None}
use Rattle.std.specs.List.{enumerate_from}
use Rattle.journal_records.specs.declared.records.Record.{Record}
use Rattle.budget_core.specs.Ledger.{Ledger, start_of}
use Rattle.budget_ledger.specs.Account.{Account, IsBook, Went}
use Rattle.budget_ledger.specs.declared.failure.Failure.{Failure}

-- a record that a pass added, with its position
abbrev pub Told : Type 0
Told = ℕ × Record

-- The book as it was opened; the records seen, and the append that failed, as far as this pass has seen; the records that it
-- added, with positions, and its own appends that failed.
pub record Pass : Type 0 where
  pub opened : Account
  pub seen : List Record
  pub failure : Option Failure
  pub own : List Told
  pub faults : List Failure

-- the ledger of a book that was opened so, with these records
abbrev pub ledger_on : Account → List Record → Ledger
ledger_on opened records = record { entry = opened.ledger.entry; found = opened.ledger.found; records = records }

-- reservations from this number on are of this run
abbrev pub first_of_run : Pass → ℕ
first_of_run pass = start_of pass.opened.ledger

-- the records behind those found, with positions
abbrev pub told_behind : (found records : List Record) → List Told
told_behind found records = enumerate_from (length found) (drop (length found) records)

-- the records without their positions
abbrev pub records_told : List Told → List Record
records_told told = map (λ (one : Told). one.1) told

-- what closed a book, as a list
abbrev pub closing : Option Failure → List Failure
closing None = []
closing (Some failure) = failure ∷ []

-- The book was just opened: nothing was added to it, and no append has failed.
pub record IsJustOpened (opened : Account) : Type 0 where
  pub found : opened.ledger.records ≡ opened.ledger.found
  pub unclosed : opened.storage.closed ≡ None

-- The book keeps its entry and what it found, and has gone on since.
pub record HasGone (opened now : Account) : Type 0 where
  pub ledger : now.ledger ≡ ledger_on opened now.ledger.records
  pub went : Went opened.ledger.records now.ledger.records opened.storage now.storage

-- To a book with no record more, and of which no append has failed, nothing was done.
abbrev pub IsUntouched : (opened now : Account) → Type 0
IsUntouched opened now = now.ledger.records ≡ opened.ledger.found → now.storage.closed ≡ None → now.storage ≡ opened.storage

-- A book was just opened so, and is so now.
pub record IsSole (opened now : Account) : Type 0 where
  pub fresh : IsJustOpened opened
  pub gone : HasGone opened now
  pub untouched : IsUntouched opened now
  pub book : IsBook now
