-- What a ledger keeps beside its history.
use Rattle.std.specs.Prelude.{◌≡◌, ◌≤◌, take, length}
use Rattle.budget_core.specs.declared.ledger.Ledger.TheInside.{Inside}
use Rattle.budget_core.specs.Counts.{open_from}
use Rattle.budget_core.specs.Ledger.{Ledger, start_of}
use Rattle.budget_core.specs.Sound.{IsSound}

-- what contracts see of a ledger
abbrev pub ledger_in : Inside → Ledger
ledger_in l = record { entry = l.history.entry; found = take l.found l.history.records; records = l.history.records }

pub record HoldsRun (l : Inside) : Type 0 where
  pub found : l.found ≤ length l.history.records
  pub start : l.start ≡ start_of (ledger_in l)
  pub unsettled : l.unsettled ≡ open_from l.start l.history.records
  pub sound : IsSound (ledger_in l)
