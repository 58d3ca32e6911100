-- What holds of every ledger.
use Rattle.std.specs.Prelude.{◌+◌, ◌≤◌, length}
use Rattle.budget_core.specs.Cost.{cost_of, budget_of}
use Rattle.budget_core.specs.Counts.{open_from}
use Rattle.budget_core.specs.Entries.{IsEntry, budget_limit}
use Rattle.budget_core.specs.Legal.{IsHistory, IsLegal}
use Rattle.budget_core.specs.Ledger.{Ledger, start_of}

-- The entry is valid, what was found is a history, the records are legal after it and cost at most the budget, which is within its limit,
-- and there is room for them and a settlement for each open reservation.
pub record IsSound (ledger : Ledger) : Type 0 where
  pub entry : IsEntry ledger.entry
  pub found : IsHistory ledger.entry ledger.found
  pub legal : IsLegal ledger.entry ledger.found ledger.records
  pub within : cost_of ledger.entry ledger.records ≤ budget_of ledger.entry ledger.records
  pub limited : budget_of ledger.entry ledger.records ≤ budget_limit
  pub room : length ledger.records + open_from (start_of ledger) ledger.records ≤ ledger.entry.capacity
