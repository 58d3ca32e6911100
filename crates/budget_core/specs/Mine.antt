-- What one analyst asked of an owner, and what that cost.
use Rattle.std.specs.Prelude.{ℕ, ◌==◌, ◌||◌, Bool, List, [], ◌∷◌, ◌++◌, map}
use Rattle.std.specs.List.{filter}
use Rattle.partition_charge.specs.Cost.{Charge, cost_of_charges}
use Rattle.journal_records.specs.declared.records.Reservation.{Reservation}
use Rattle.journal_records.specs.declared.records.Settlement.{Settlement}
use Rattle.journal_records.specs.declared.records.Record.{Record}
use Rattle.journal_records.specs.Records.{reservation_in, settlement_in, is_some_and}
use Rattle.budget_core.specs.Cost.{charge_by, counts_in}
use Rattle.budget_core.specs.Counts.{reservations_of, asker_of}
use Rattle.budget_core.specs.Entries.{Entry}

-- the reservation is this analyst's
abbrev pub is_by : (analyst : ℕ) → Reservation → Bool
is_by analyst reservation = reservation.analyst == analyst

-- this analyst reserved the number
abbrev pub has_asked : List Record → (analyst number : ℕ) → Bool
has_asked records analyst number = is_some_and (λ (asker : ℕ). asker == analyst) (asker_of records number)

-- the record is a reservation of this analyst's, or settles a number that the analyst reserved
abbrev pub is_asked_by : List Record → (analyst : ℕ) → Record → Bool
is_asked_by records analyst next = is_some_and (is_by analyst) (reservation_in next)
    || is_some_and (λ (settlement : Settlement). has_asked records analyst settlement.number) (settlement_in next)

-- what this analyst asked: its reservations and their settlements, in order
abbrev pub asked_by : List Record → (analyst : ℕ) → List Record
asked_by records analyst = filter (is_asked_by records analyst) records

-- what its reservations that count charge
abbrev pub charges_by : Entry → List Record → (analyst : ℕ) → List Charge
charges_by entry records analyst = map charge_by (filter (counts_in entry records) (filter (is_by analyst) (reservations_of records)))

-- what this analyst has spent
unfoldable pub spent_by : Entry → List Record → (analyst : ℕ) → ℕ
spent_by entry records analyst = cost_of_charges (charges_by entry records analyst)

-- what this analyst would have spent with one charge more
abbrev pub spent_after : Entry → List Record → (analyst : ℕ) → Charge → ℕ
spent_after entry records analyst charge = cost_of_charges (charges_by entry records analyst ++ charge ∷ [])
