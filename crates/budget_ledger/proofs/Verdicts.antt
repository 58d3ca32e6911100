-- What a book's verdict says of the verdict on its records.
use Rattle.std.proofs.Common.{◌≡◌, ℕ, Bool, true, false, [], ◌∷◌, ◌++◌, Option, None, Some, Result, Ok, Err, IsErrAnd, refl, sym, ◌∙◌, ap, subst}
use Rattle.journal_records.specs.declared.records.Outcome.{Outcome}
use Rattle.journal_records.specs.declared.records.Settlement.{Settlement}
use Rattle.journal_records.specs.declared.records.Record.TheVariants.{Settle}
use Rattle.budget_core.specs.declared.entry.Ask.{Ask}
use Rattle.budget_core.specs.declared.entry.Grant.{Grant}
use Rattle.budget_core.specs.declared.entry.ReserveFault.{ReserveFault}
use Rattle.budget_core.specs.declared.entry.ReserveFault.TheVariants.{OverBudget, Full, OverShare}
use Rattle.budget_core.specs.Bars.{first_bar}
use Rattle.budget_core.specs.Ledger.{start_of, reservation_for, settlement_of, settlement_for, money_verdict, IsUnsettled}
use Rattle.budget_ledger.specs.Account.{Failure, Account}
use Rattle.budget_ledger.specs.Booked.{shut_bars, book_verdict, HasVerdict, HasGained, IsUnwritten, IsReserved, IsSettlementOf}
use Rattle.budget_ledger.specs.Kept.{refusal_with}
use Rattle.budget_ledger.specs.declared.book.AppendFault.{AppendFault}
use Rattle.budget_ledger.specs.declared.book.AppendFault.TheVariants.{Closed, DiskFault}
use Rattle.budget_ledger.specs.declared.book.BookFault.{BookFault}
use Rattle.budget_ledger.specs.declared.book.BookFault.TheVariants.{Refused, Unwritten}

-- ---- three bars, and what shuts the journal before the last

abbrev on_records : (over full beyond : Bool) (e f g : ReserveFault) (v : Grant) → Result Grant ReserveFault
on_records over full beyond e f g v = first_bar ((over, e) ∷ (full, f) ∷ (beyond, g) ∷ []) v

abbrev on_book : Option Failure → (over full beyond : Bool) (e f g : ReserveFault) (v : Grant) → Result Grant BookFault
on_book closed over full beyond e f g v = first_bar ((over, Refused e) ∷ (full, Refused f) ∷ shut_bars closed ++ (beyond, Refused g) ∷ []) v

module _ (s t b n used unsettled capacity spent after limit seen : ℕ) (v : Grant) where
  refuses : (closed : Option Failure) (over full beyond : Bool) (fault : ReserveFault) → on_records over full beyond (OverBudget s t b n) (Full used unsettled capacity) (OverShare spent after limit seen) v ≡ Err fault
      → on_book closed over full beyond (OverBudget s t b n) (Full used unsettled capacity) (OverShare spent after limit seen) v ≡ Err (refusal_with fault closed)
  refuses closed true full beyond fault is = let same : OverBudget s t b n ≡ fault = cc is in ap (λ (x : ReserveFault). Err (refusal_with x closed)) same
  refuses closed false true beyond fault is = let same : Full used unsettled capacity ≡ fault = cc is in ap (λ (x : ReserveFault). Err (refusal_with x closed)) same
  refuses None false false true fault is = let same : OverShare spent after limit seen ≡ fault = cc is in ap (λ (x : ReserveFault). Err (refusal_with x None)) same
  refuses (Some failure) false false true fault is = let same : OverShare spent after limit seen ≡ fault = cc is in ap (λ (x : ReserveFault). Err (refusal_with x (Some failure))) same
  refuses closed false false false fault is = absurd cc

  grants : (over full beyond : Bool) (w : Grant) → on_records over full beyond (OverBudget s t b n) (Full used unsettled capacity) (OverShare spent after limit seen) v ≡ Ok w
      → on_book None over full beyond (OverBudget s t b n) (Full used unsettled capacity) (OverShare spent after limit seen) v ≡ Ok w
  grants true full beyond w is = absurd cc
  grants false true beyond w is = absurd cc
  grants false false true w is = absurd cc
  grants false false false w is = let same : v ≡ w = cc is in ap Ok same

  shuts : (failure : Failure) (over full beyond : Bool) (w : Grant) → on_records over full beyond (OverBudget s t b n) (Full used unsettled capacity) (OverShare spent after limit seen) v ≡ Ok w
      → on_book (Some failure) over full beyond (OverBudget s t b n) (Full used unsettled capacity) (OverShare spent after limit seen) v ≡ Err (Unwritten (Closed failure.failed_at))
  shuts failure true full beyond w is = absurd cc
  shuts failure false true beyond w is = absurd cc
  shuts failure false false beyond w is = refl

  -- ---- back

  granted_back : (closed : Option Failure) (over full beyond : Bool) (w : Grant) → on_book closed over full beyond (OverBudget s t b n) (Full used unsettled capacity) (OverShare spent after limit seen) v ≡ Ok w
      → (closed ≡ None) × (on_records over full beyond (OverBudget s t b n) (Full used unsettled capacity) (OverShare spent after limit seen) v ≡ Ok w)
  granted_back closed true full beyond w is = absurd cc
  granted_back closed false true beyond w is = absurd cc
  granted_back (Some failure) false false beyond w is = absurd cc
  granted_back None false false true w is = absurd cc
  granted_back None false false false w is = let same : v ≡ w = cc is in (refl, ap Ok same)

  refused_back : (closed : Option Failure) (over full beyond : Bool) (fault : ReserveFault) → on_book closed over full beyond (OverBudget s t b n) (Full used unsettled capacity) (OverShare spent after limit seen) v ≡ Err (Refused fault)
      → on_records over full beyond (OverBudget s t b n) (Full used unsettled capacity) (OverShare spent after limit seen) v ≡ Err fault
  refused_back closed true full beyond fault is = let same : OverBudget s t b n ≡ fault = cc is in ap Err same
  refused_back closed false true beyond fault is = let same : Full used unsettled capacity ≡ fault = cc is in ap Err same
  refused_back (Some failure) false false beyond fault is = absurd cc
  refused_back None false false true fault is = let same : OverShare spent after limit seen ≡ fault = cc is in ap Err same
  refused_back None false false false fault is = absurd cc

  shut_back : (closed : Option Failure) (over full beyond : Bool) (at : ℕ) → on_book closed over full beyond (OverBudget s t b n) (Full used unsettled capacity) (OverShare spent after limit seen) v ≡ Err (Unwritten (Closed at))
      → (failure : Failure) × (closed ≡ Some failure) × (at ≡ failure.failed_at)
  shut_back closed true full beyond at is = absurd cc
  shut_back closed false true beyond at is = absurd cc
  shut_back (Some failure) false false beyond at is = let same : failure.failed_at ≡ at = cc is in (failure, refl, sym same)
  shut_back None false false true at is = absurd cc
  shut_back None false false false at is = absurd cc

-- ---- of a book

module _ (account : Account) (ask : Ask) where
  abbrev Says : Result Grant ReserveFault → Type 0
  Says verdict = money_verdict account.ledger.entry (start_of account.ledger) account.ledger.records ask ≡ verdict

  refused-says : (fault : ReserveFault) → Says (Err fault) → HasVerdict account ask (Err (refusal_with fault account.storage.closed))
  refused-says fault is = refuses _ _ _ _ _ _ _ _ _ _ _ _ account.storage.closed _ _ _ fault is

  granted-says : (grant : Grant) → Says (Ok grant) → account.storage.closed ≡ None → HasVerdict account ask (Ok grant)
  granted-says grant is none =
      ap (λ (closed : Option Failure). book_verdict account.ledger.entry (start_of account.ledger) account.ledger.records closed ask) none
      ∙ grants _ _ _ _ _ _ _ _ _ _ _ _ _ _ _ grant is

  shut-says : (grant : Grant) (failure : Failure) → Says (Ok grant) → account.storage.closed ≡ Some failure → HasVerdict account ask (Err (Unwritten (Closed failure.failed_at)))
  shut-says grant failure is closed =
      ap (λ (closed : Option Failure). book_verdict account.ledger.entry (start_of account.ledger) account.ledger.records closed ask) closed
      ∙ shuts _ _ _ _ _ _ _ _ _ _ _ _ failure _ _ _ grant is

  -- A refusal leaves the book as it is.
  pub is-refused : (fault : ReserveFault) → Says (Err fault) → IsReserved account ask (Err (refusal_with fault account.storage.closed)) account
  is-refused fault is = by fault account.storage.closed (refused-says fault is)
    where
      by : (x : ReserveFault) (closed : Option Failure) → HasVerdict account ask (Err (refusal_with x closed)) → IsReserved account ask (Err (refusal_with x closed)) account
      by (OverBudget s t b n) closed said = (said, refl)
      by (Full used unsettled capacity) closed said = (said, refl)
      by (OverShare spent after limit seen) None said = (said, refl)
      by (OverShare spent after limit seen) (Some failure) said = (said, refl)

  -- A grant that is written is answered so,
  pub is-written : (grant : Grant) (new : Account) → Says (Ok grant) → HasGained account (reservation_for account.ledger.records ask grant.taken) new
      → IsUnsettled new.ledger grant.number → IsReserved account ask (Ok grant) new
  is-written grant new is gained unsettled = (granted-says grant is gained.open_before, gained, unsettled)

  -- and one that isn't.
  pub is-unwritten : (grant : Grant) (fault : AppendFault) (new : Account) → Says (Ok grant) → IsUnwritten account (reservation_for account.ledger.records ask grant.taken) fault new
      → IsReserved account ask (Err (Unwritten fault)) new
  is-unwritten grant (Closed n) new is (failure, closed, at, same) =
      (shut-says grant failure is closed ∙ ap (λ (m : ℕ). Err (Unwritten (Closed m))) (sym at), same)
  is-unwritten grant DiskFault new is closed = (grant, granted-says grant is closed.open_before, closed)

  -- ---- back

  pub says-granted : (grant : Grant) → HasVerdict account ask (Ok grant) → Says (Ok grant)
  says-granted grant is = (granted_back _ _ _ _ _ _ _ _ _ _ _ _ account.storage.closed _ _ _ grant is).1

  pub says-open : (grant : Grant) → HasVerdict account ask (Ok grant) → account.storage.closed ≡ None
  says-open grant is = (granted_back _ _ _ _ _ _ _ _ _ _ _ _ account.storage.closed _ _ _ grant is).0

  pub says-refused : (fault : ReserveFault) → HasVerdict account ask (Err (Refused fault)) → Says (Err fault)
  says-refused fault is = refused_back _ _ _ _ _ _ _ _ _ _ _ _ account.storage.closed _ _ _ fault is

  pub says-shut : (at : ℕ) → HasVerdict account ask (Err (Unwritten (Closed at))) → (failure : Failure) × (account.storage.closed ≡ Some failure) × (at ≡ failure.failed_at)
  says-shut at is = shut_back _ _ _ _ _ _ _ _ _ _ _ _ account.storage.closed _ _ _ at is

-- ---- a settlement

-- one that isn't written is answered so
pub is-unsettled : (old new : Account) (number : ℕ) (outcome : Outcome) (settlement : Settlement) (fault : AppendFault) (answer : Result ℕ AppendFault)
    → settlement ≡ settlement_of old.ledger.entry old.ledger.records number outcome → IsUnwritten old (Settle settlement) fault new → IsErrAnd answer (λ e. e ≡ fault)
    → IsSettlementOf old number outcome answer new
is-unsettled old new number outcome settlement fault (Ok seen) is unwritten passed = absurd passed
is-unsettled old new number outcome settlement fault (Err other) is unwritten passed =
    subst (λ (e : AppendFault). IsUnwritten old (settlement_for old.ledger.entry old.ledger.records number outcome) e new) (sym passed)
    (subst (λ (s : Settlement). IsUnwritten old (Settle s) fault new) is unwritten)
