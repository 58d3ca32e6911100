-- A side that is brought up to more records, by one after another.
use Rattle.std.proofs.Common.{◌≡◌, ℕ, suc, ◌+◌, ◌<◌, ◌≤◌, take, get_or, List, [], ◌∷◌, ◌++◌, length, sym, ◌∙◌, subst, arith, Option, None, Some, Result, Ok, Err}
use Rattle.std.specs.Prelude.{IfOk, IfErr, ⊤}
use Rattle.std.proofs.Math.Seq.{take-suc}
use Rattle.std.proofs.lemmas.List.{length-take-le}
use Rattle.outside_disks.specs.Disks.{Trace}
use Rattle.journal_records.specs.declared.records.Record.{Record}
use Rattle.journal_records.specs.declared.records.Header.{Header}
use Rattle.budget_journal.specs.Journals.{disk_of, capacity_of}
use Rattle.budget_ledger.specs.Account.{Failure, HeldWent}
use Rattle.budget_ledger.specs.Kept.{IsReadySide, shown_on, held_on, HoldsSide, HasWrittenOn, IsUnappendedOn, HalfWent}
use Rattle.budget_ledger.specs.declared.book.AppendFault.{AppendFault}
use Rattle.budget_ledger.specs.declared.book.AppendFault.TheVariants.{Closed, DiskFault}
use Rattle.budget_ledger.specs.declared.halves.Side.{Side}
use Rattle.budget_ledger.specs.declared.halves.Half.TheVariants.{Kept}
use Rattle.budget_ledger.proofs.Wents.{held_then}
use Rattle.budget_ledger.proofs.Sides.{half_on}

pub take_next : (l : List Record) (j : ℕ) (d : Record) → j < length l → take (j + 1) l ≡ take j l ++ get_or l j d ∷ []
take_next l j d low =
    let up : suc j ≡ j + 1 = omega arith in
    subst (λ (n : ℕ). take n l ≡ take j l ++ get_or l j d ∷ []) up (take-suc l j d low)

module _ {D : Type 0} (trace : D → Option Trace) (faults : D → ℕ) where
  -- what an append to a side is, of one of two disks
  pub side_went : (next : Record) (old new : Side D) (answer : Result ⊤ AppendFault) → IfOk answer (λ _. HasWrittenOn trace faults next old new)
      → IfErr answer (λ fault. IsUnappendedOn trace faults next old new fault)
      → (x : Result ⊤ (Option Failure)) × HalfWent trace faults next (Kept old) (Kept new) x
  side_went next old new (Ok value) written stopped = (Ok value, written)
  side_went next old new (Err (Closed n)) written stopped = (Err None, stopped)
  side_went next old new (Err DiskFault) written stopped = (Err (Some stopped.0), stopped.1)

  -- a side of a book whose header is its own but for the version
  pub holds_under : (common : Header) (records : List Record) (closed : Option Failure) (side : Side D) → side.header ≡ record common { version = side.header.version }
      → HoldsSide trace faults side.header records closed side → HoldsSide trace faults common records closed side
  holds_under common records closed side is holds = record {
    copy = record {
      header = is;
      begins = holds.copy.begins;
      whole = holds.copy.whole;
      kept = holds.copy.kept;
      failed = holds.copy.failed;
      follows = holds.copy.follows;
    };
    journal = holds.journal;
    has = holds.has;
    whole = holds.whole;
  }

  pub level_ready : (common : Header) (records : List Record) (slot : ℕ) (side : Side D) → HoldsSide trace faults common (take slot records) None side → slot < length records
      → length records ≤ capacity_of side.journal → IsReadySide side
  level_ready common records slot side holds low room = record {
    journal = record {
      ready = holds.journal.ready;
      room = λ none. omega (arith, holds.journal.counted none, length-take-le slot records (omega arith), low, room);
    };
    counted = λ none. holds.journal.counted none ∙ sym (holds.whole none);
    room = holds.journal.room;
  }

  pub level_step : (common : Header) (found records more : List Record) (next : Record) (start mid new : Side D) (answer : Result ⊤ AppendFault) → more ≡ records ++ next ∷ []
      → HoldsSide trace faults common records None mid → IsReadySide mid
      → HeldWent (shown_on trace faults (disk_of start.journal)) (shown_on trace faults (disk_of mid.journal)) (held_on trace faults found start) (held_on trace faults records mid)
      → IfOk answer (λ _. HasWrittenOn trace faults next mid new) → IfErr answer (λ fault. IsUnappendedOn trace faults next mid new fault)
      → HoldsSide trace faults common more None new
      × HeldWent (shown_on trace faults (disk_of start.journal)) (shown_on trace faults (disk_of new.journal)) (held_on trace faults found start) (held_on trace faults more new)
  level_step common found records more next start mid new answer is holds ready went written stopped =
      let one = side_went next mid new answer written stopped in
      let on = half_on trace faults common records next (Kept mid) (Kept new) one.0 holds ready one.1 in
      subst (λ (rs : List Record). HoldsSide trace faults common rs None new
      × HeldWent (shown_on trace faults (disk_of start.journal)) (shown_on trace faults (disk_of new.journal)) (held_on trace faults found start) (held_on trace faults rs new)) (sym is) (
        on.0,
        held_then (shown_on trace faults (disk_of start.journal)) (shown_on trace faults (disk_of mid.journal)) (shown_on trace faults (disk_of new.journal))
            (held_on trace faults found start) (held_on trace faults records mid) (held_on trace faults (records ++ next ∷ []) new) went on.1,
      )
