-- What contracts see of a pass on a book behind a lock.
use Rattle.std.specs.Prelude.{◌≡◌, ℕ, List, [], Option, Some, None}
use Rattle.atomic_table.specs.Seated.{TableId}
use Rattle.budget_ledger.specs.Account.{Account}
use Rattle.owner_lock.specs.Known.{Known}
use Rattle.owner_desk.specs.Passes.{IsJustOpened, Pass}
use Rattle.owner_desk.specs.declared.noted.Noted.{Noted}
use Rattle.owner_desk.specs.Noted.{faults_in, failure_in, history_with, records_in, told_in}

-- Which lock it is of, its share of all passes, and what it knows of the book.
pub record Shared : Type 0 where
  pub lock : TableId
  pub share : ℕ
  pub knows : Pass

abbrev no_account : Account
no_account = record {
  ledger = record { entry = record { budget = 0; capacity = 0; analysts = 0; keys = []; version = 0; limits = [] }; found = []; records = [] };
  storage = record { header = record { owner = 0; budget = 0; capacity = 0; digest = []; version = 0 }; trace = None; faults = 0; closed = None; copies = None };
}

abbrev pub opened_in : Option Account → Account
opened_in None = no_account
opened_in (Some opened) = opened

-- what is known of a book that was opened so, by what its pass knows of the lock's history
abbrev pub pass_with : Account → Known Noted Account → Pass
pass_with opened v = record {
  opened = opened;
  seen = records_in v.seen;
  failure = failure_in v.seen;
  own = told_in v.own;
  faults = faults_in v.own;
}

abbrev pub shared_by : TableId → Known Noted Account → Shared
shared_by lock v = record { lock = lock; share = v.share; knows = pass_with (opened_in v.fixed) v }

-- what a pass of a book's lock knows: the book was just opened when it was put there
pub record IsPassKnown (opened : Account) (v : Known Noted Account) : Type 0 where
  pub fixed : v.fixed ≡ Some opened
  pub base : v.base ≡ history_with opened.ledger.records opened.storage.closed
  pub fresh : IsJustOpened opened

-- what no call on the book changes
pub record IsKept (before after : Shared) : Type 0 where
  pub lock : after.lock ≡ before.lock
  pub share : after.share ≡ before.share
  pub opened : after.knows.opened ≡ before.knows.opened
