-- Which histories are legal.
use Rattle.std.specs.Prelude.{◌≡◌, List, Option}
use Rattle.journal_records.specs.declared.records.Record.{Record}
use Rattle.budget_core.specs.Sound.{IsSound}
use Rattle.budget_ledger.specs.Account.{Account}
use Rattle.budget_ledger.specs.declared.failure.Failure.{Failure}
use Rattle.owner_desk.specs.Passes.{ledger_on}
use Rattle.owner_lock.specs.declared.stands.StandsFor.{Ghosts}
use Rattle.owner_desk.specs.declared.noted.Noted.{Noted}
use Rattle.owner_desk.specs.Noted.{ClosesEntry, history_with}
use Rattle.owner_desk.specs.Watched.{Watched, history_of, is_shut}

-- The records are sound behind those found, and a failure stands last.
pub record IsLawful (opened : Account) (history : List Noted) : Type 0 where
  pub records : List Record
  pub closed : Option Failure
  pub is : history ≡ history_with records closed
  pub sound : IsSound (ledger_on opened records)

-- what the lock is told of a book
abbrev pub stands : Ghosts Watched Noted Account
stands = record { history = history_of; shut = is_shut; fixed = λ w. w.opened; legal = IsLawful; closes = ClosesEntry }
