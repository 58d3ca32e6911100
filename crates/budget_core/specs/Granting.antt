-- What a book of records answers where its owner grants more of the budget.
use Rattle.std.specs.Prelude.{ℕ, ◌+◌, ◌≤◌, nat_lt, Bool, List, [], ◌∷◌, ◌++◌, length, Result, Ok, Err}
use Rattle.journal_records.specs.declared.records.BudgetGrant.{BudgetGrant}
use Rattle.journal_records.specs.declared.records.Record.{Record}
use Rattle.journal_records.specs.declared.records.Record.TheVariants.{Grant}
use Rattle.budget_core.specs.declared.answers.Left.{Left}
use Rattle.budget_core.specs.declared.answers.GrantRefusal.{GrantRefusal}
use Rattle.budget_core.specs.declared.answers.GrantRefusal.TheVariants.{TooLarge, Full}
use Rattle.budget_core.specs.Bars.{first_bar}
use Rattle.budget_core.specs.Cost.{cost_of, budget_of}
use Rattle.budget_core.specs.Counts.{grants_of, open_from}
use Rattle.budget_core.specs.Entries.{Entry, budget_limit}
use Rattle.budget_core.specs.Ledger.{Ledger, start_of}
use Rattle.budget_core.specs.Legal.{IsGrantAfter}

-- an amount in millionths of epsilon that an owner may grant at once
pub record IsAmount (amount : ℕ) : Type 0 where
  pub least : 1 ≤ amount
  pub most : amount ≤ budget_limit

-- the grant of this amount behind these records
abbrev pub grant_behind : List Record → (amount : ℕ) → BudgetGrant
grant_behind records amount = record { number = length (grants_of records); amount = amount }

-- the records with this amount granted
abbrev pub with_grant : List Record → (amount : ℕ) → List Record
with_grant records amount = records ++ Grant (grant_behind records amount) ∷ []

-- What stands against a grant: it is too large, as the budget with it exceeds the limit; and the journal is full, as its records,
-- a settlement for each open reservation and this record exceed its capacity.
abbrev pub bars_on_grant : Entry → (start : ℕ) → List Record → (amount : ℕ) → List (Bool × GrantRefusal)
bars_on_grant entry start records amount =
    (nat_lt budget_limit (budget_of entry records + amount), TooLarge (budget_of entry records) amount)
    ∷ (nat_lt entry.capacity (length records + open_from start records + 1), Full (length records) (open_from start records) entry.capacity)
    ∷ []

abbrev pub grant_verdict : Entry → (start : ℕ) → List Record → (amount : ℕ) → Result Left GrantRefusal
grant_verdict entry start records amount = first_bar (bars_on_grant entry start records amount)
    (record { spent = cost_of entry records; budget = budget_of entry records + amount; seen = length records + 1 })

-- the records after this amount was to be granted
abbrev pub records_granted : List Record → (amount : ℕ) → Result Left GrantRefusal → List Record
records_granted records amount (Ok left) = with_grant records amount
records_granted records amount (Err refusal) = records

-- The grant may be added to the ledger: it may follow, and there is room for it.
pub record MayGrant (ledger : Ledger) (grant : BudgetGrant) : Type 0 where
  pub follows : IsGrantAfter ledger.entry ledger.records grant
  pub room : length ledger.records + open_from (start_of ledger) ledger.records + 1 ≤ ledger.entry.capacity
