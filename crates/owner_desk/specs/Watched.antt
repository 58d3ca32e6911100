-- A book beside what it was when it was put under the lock.
use Rattle.std.specs.Prelude.{List, is_some, Bool}
use Rattle.journal_records.specs.declared.records.Record.{Record}
use Rattle.budget_ledger.specs.Account.{Account, Storage}
use Rattle.owner_desk.specs.Passes.{ledger_on}
use Rattle.owner_desk.specs.declared.noted.Noted.{Noted}
use Rattle.owner_desk.specs.Noted.{history_with}

pub record Watched : Type 0 where
  pub opened : Account
  pub records : List Record
  pub storage : Storage

-- the book now
abbrev pub account_at : Watched → Account
account_at w = record { ledger = ledger_on w.opened w.records; storage = w.storage }

abbrev pub history_of : Watched → List Noted
history_of w = history_with w.records w.storage.closed

abbrev pub is_shut : Watched → Bool
is_shut w = is_some w.storage.closed
