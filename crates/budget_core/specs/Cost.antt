-- What records cost.
use Rattle.std.specs.Prelude.{ℕ, ◌+◌, ◌*◌, ◌-◌, ◌/◌, ◌==◌, ◌&&◌, Bool, not, List, map, sum_by, Option}
use Rattle.std.specs.List.{filter}
use Rattle.partition_charge.specs.Cost.{Charge, cost_of_charges}
use Rattle.journal_records.specs.declared.records.Outcome.{Outcome}
use Rattle.journal_records.specs.declared.records.Record.{Record}
use Rattle.journal_records.specs.declared.records.Reservation.{Reservation}
use Rattle.budget_core.specs.Counts.{reservations_of, outcome_of, is_exhaustion, amount_of}
use Rattle.budget_core.specs.Entries.{Entry}

-- the least whole number that isn't below a/b
abbrev pub ceil_div : ℕ → ℕ → ℕ
ceil_div a b = (a + (b - 1)) / b

-- what a query of sensitivity p/q costs at epsilon e
abbrev pub charge_of : (e p q : ℕ) → ℕ
charge_of e p q = ceil_div (p * e) q

-- what a reservation charges the view that it looks at
abbrev pub charge_by : Reservation → Charge
charge_by reservation = record { view = reservation.view; amount = charge_of reservation.e reservation.p reservation.q }

-- In a journal of version 3 what a number was charged comes back where its sampler ran out of draws. In earlier versions
-- nothing comes back.
abbrev pub comes_back : Entry → Option Outcome → Bool
comes_back entry outcome = (entry.version == 3) && is_exhaustion outcome

-- a reservation counts, unless these records settle its number so that its charge comes back
abbrev pub counts_in : Entry → List Record → Reservation → Bool
counts_in entry records reservation = not (comes_back entry (outcome_of records reservation.number))

-- what records charge: the reservations that count, in order
abbrev pub charges_in : Entry → List Record → List Charge
charges_in entry records = map charge_by (filter (counts_in entry records) (reservations_of records))

-- what records cost an owner of this entry: the whole view's charges, and for each partition its dearest part's
unfoldable pub cost_of : Entry → List Record → ℕ
cost_of entry records = cost_of_charges (charges_in entry records)

-- the budget that the cost of these records is held against: the entry's, and all that these records grant
unfoldable pub budget_of : Entry → List Record → ℕ
budget_of entry records = entry.budget + sum_by amount_of records
