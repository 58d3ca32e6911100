-- What becomes of an owner's records on two disks.
use Rattle.std.specs.Prelude.{◌≡◌, ℕ, List, Option, None, Some, ⊤}
use Rattle.outside_disks.specs.Stored.{Twins}
use Rattle.journal_records.specs.declared.records.Header.{Header}
use Rattle.journal_records.specs.declared.records.Record.{Record}
use Rattle.budget_ledger.specs.Account.{AreCopies, Copies, Storage, count_of}
use Rattle.budget_ledger.specs.Both.{IsOpenedCopy, Make, Reading}
use Rattle.budget_ledger.specs.declared.failure.Failure.{Failure}

-- what a book shows of two disks that show this, where it is closed so or open
abbrev pub storage_on : Header → Option Failure → Copies → Storage
storage_on header closed copies = record { header = header; trace = None; faults = count_of closed; closed = closed; copies = Some copies }

-- An owner's two disks through a run. What was found on each made the records found. It was gone then, and wasn't touched; or it had some first
-- ones of the records, and went on from there as one disk does: by what it has, until an append to it failed. Now each has some first
-- ones of the records, and all where none failed; and one of them has, unless the book was closed by both.
pub record BothWentOn (header : Header) (found records : List Record) (closed : Option Failure) (before after : Twins) : Type 0 where
  pub first : Reading
  pub second : Reading
  pub made : Make first second header.version found
  pub copies : Copies
  pub on_first : IsOpenedCopy header before.first first copies.first
  pub on_second : IsOpenedCopy header before.second second copies.second
  pub kept : AreCopies records (storage_on header closed copies) copies
  pub shown : after ≡ record { first = copies.first.shown; second = copies.second.shown }

-- One disk stays one, and two stay two that went on so.
abbrev pub TwinsWentOn : Header → (found records : List Record) → Option Failure → (before after : Option Twins) → Type 0
TwinsWentOn header found records closed None None = ⊤
TwinsWentOn header found records closed (Some before) (Some after) = BothWentOn header found records closed before after
TwinsWentOn header found records closed None (Some after) = ⊥
TwinsWentOn header found records closed (Some before) None = ⊥
