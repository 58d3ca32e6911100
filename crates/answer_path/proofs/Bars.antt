-- the verdict of a book that is closed or isn't, against the verdict on its records alone
use Rattle.std.proofs.Common.{◌≡◌, ◌⊎◌, ℕ, ◌+◌, ◌<◌, Bool, true, false, List, [], ◌∷◌, ◌++◌, length, refl, ap, arith, inl, inr, Option, Some, None}
use Rattle.std.specs.Prelude.{nat_lt, Result, Ok, Err}
use Rattle.journal_records.specs.declared.records.Record.{Record}
use Rattle.budget_core.specs.declared.entry.Ask.{Ask}
use Rattle.budget_core.specs.declared.entry.Grant.{Grant}
use Rattle.budget_core.specs.declared.entry.ReserveFault.{ReserveFault}
use Rattle.budget_core.specs.declared.entry.ReserveFault.TheVariants.{OverBudget, Full, OverShare}
use Rattle.budget_core.specs.Bars.{first_bar}
use Rattle.budget_core.specs.Cost.{cost_of, budget_of}
use Rattle.budget_core.specs.Counts.{open_from}
use Rattle.budget_core.specs.Entries.{Entry}
use Rattle.budget_core.specs.Ledger.{money_verdict, cost_with, is_over_share, over_share, grant_for}
use Rattle.budget_ledger.specs.Booked.{shut_bars, book_verdict}
use Rattle.budget_ledger.specs.declared.failure.Failure.{Failure}
use Rattle.budget_ledger.specs.declared.book.AppendFault.TheVariants.{Closed}
use Rattle.budget_ledger.specs.declared.book.BookFault.{BookFault}
use Rattle.budget_ledger.specs.declared.book.BookFault.TheVariants.{Refused, Unwritten}
use Rattle.wire_lines.specs.Codes.{money_code}
use Rattle.answer_path.specs.Verdict.{money_refusal}

-- over the budget, full and over its share, with what is said of each, and what is granted where nothing bars it
module _ (e f g : ReserveFault) (v : Grant) (low : money_code (money_refusal e) ≡ 40) (full_low : money_code (money_refusal f) ≡ 41) (high : 42 < money_code (money_refusal g)) where
  abbrev on_records : (over full beyond : Bool) → Result Grant ReserveFault
  on_records over full beyond = first_bar ((over, e) ∷ (full, f) ∷ (beyond, g) ∷ []) v

  abbrev on_book : Option Failure → (over full beyond : Bool) → Result Grant BookFault
  on_book closed over full beyond = first_bar ((over, Refused e) ∷ (full, Refused f) ∷ shut_bars closed ++ (beyond, Refused g) ∷ []) v

  granted : (closed : Option Failure) (over full beyond : Bool) (w : Grant) → on_book closed over full beyond ≡ Ok w → on_records over full beyond ≡ Ok w
  granted closed true full beyond w is = absurd (cc is)
  granted closed false true beyond w is = absurd (cc is)
  granted (Some failure) false false beyond w is = absurd (cc is)
  granted None false false true w is = absurd (cc is)
  granted None false false false w is = let same : v ≡ w = cc is in ap Ok same

  -- a refusal is that of the records, and where its code is above 42 the book is open
  refused : (closed : Option Failure) (over full beyond : Bool) (fault : ReserveFault) → on_book closed over full beyond ≡ Err (Refused fault)
      → (on_records over full beyond ≡ Err fault) × (42 < money_code (money_refusal fault) → closed ≡ None)
  refused closed true full beyond fault is =
      let same : e ≡ fault = cc is in
      (ap Err same, λ above. absurd (omega (arith, above, low, ap (λ (x : ReserveFault). money_code (money_refusal x)) same)))
  refused closed false true beyond fault is =
      let same : f ≡ fault = cc is in
      (ap Err same, λ above. absurd (omega (arith, above, full_low, ap (λ (x : ReserveFault). money_code (money_refusal x)) same)))
  refused (Some failure) false false beyond fault is = absurd (cc is)
  refused None false false true fault is = let same : g ≡ fault = cc is in (ap Err same, λ above. refl)
  refused None false false false fault is = absurd (cc is)

  -- A book that is told closed is so, and on its records the ask was granted, or refused with a code above 42.
  shut : (closed : Option Failure) (over full beyond : Bool) (failed_at : ℕ) → on_book closed over full beyond ≡ Err (Unwritten (Closed failed_at))
      → (failure : Failure) × (closed ≡ Some failure) × (failed_at ≡ failure.failed_at)
      × (((grant : Grant) × (on_records over full beyond ≡ Ok grant))
      ⊎ ((fault : ReserveFault) × (on_records over full beyond ≡ Err fault) × (42 < money_code (money_refusal fault))))
  shut closed true full beyond failed_at is = absurd (cc is)
  shut closed false true beyond failed_at is = absurd (cc is)
  shut (Some failure) false false true failed_at is = let same : failed_at ≡ failure.failed_at = cc is in (failure, refl, same, inr (g, refl, high))
  shut (Some failure) false false false failed_at is = let same : failed_at ≡ failure.failed_at = cc is in (failure, refl, same, inl (v, refl))
  shut None false false true failed_at is = absurd (cc is)
  shut None false false false failed_at is = absurd (cc is)

module _ (entry : Entry) (start : ℕ) (records : List Record) (asking : Ask) where
  abbrev over : ReserveFault
  over = OverBudget (cost_of entry records) (cost_with entry records asking) (budget_of entry records) (length records)

  abbrev full : ReserveFault
  full = Full (length records) (open_from start records) entry.capacity

  abbrev is_over : Bool
  is_over = nat_lt (budget_of entry records) (cost_with entry records asking)

  abbrev is_full : Bool
  is_full = nat_lt entry.capacity (length records + open_from start records + 2)

  pub money-granted : (closed : Option Failure) (grant : Grant) → book_verdict entry start records closed asking ≡ Ok grant → money_verdict entry start records asking ≡ Ok grant
  money-granted closed grant is = granted over full (over_share entry records asking) (grant_for entry records asking) refl refl (omega arith) closed is_over is_full (is_over_share entry records asking) grant is

  pub money-refused : (closed : Option Failure) (fault : ReserveFault) → book_verdict entry start records closed asking ≡ Err (Refused fault)
      → (money_verdict entry start records asking ≡ Err fault) × (42 < money_code (money_refusal fault) → closed ≡ None)
  money-refused closed fault is = refused over full (over_share entry records asking) (grant_for entry records asking) refl refl (omega arith) closed is_over is_full (is_over_share entry records asking) fault is

  pub money-shut : (closed : Option Failure) (failed_at : ℕ) → book_verdict entry start records closed asking ≡ Err (Unwritten (Closed failed_at))
      → (failure : Failure) × (closed ≡ Some failure) × (failed_at ≡ failure.failed_at)
      × (((grant : Grant) × (money_verdict entry start records asking ≡ Ok grant))
      ⊎ ((fault : ReserveFault) × (money_verdict entry start records asking ≡ Err fault) × (42 < money_code (money_refusal fault))))
  money-shut closed failed_at is = shut over full (over_share entry records asking) (grant_for entry records asking) refl refl (omega arith) closed is_over is_full (is_over_share entry records asking) failed_at is
