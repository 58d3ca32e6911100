-- The history of the lock round a book: its records, and at its end the append that failed, if one has.
use Rattle.std.specs.Prelude.{◌≡◌, ℕ, List, [], ◌∷◌, ◌++◌, map, Option, Some, None}
use Rattle.journal_records.specs.declared.records.Record.{Record}
use Rattle.journal_records.specs.declared.records.Record.TheVariants.{Reserve, Settle}
use Rattle.budget_ledger.specs.declared.failure.Failure.{Failure}
use Rattle.owner_desk.specs.Passes.{Told}
use Rattle.owner_desk.specs.declared.noted.Noted.{Noted}
use Rattle.owner_desk.specs.declared.noted.Noted.TheVariants.{Added, Failed}

abbrev pub failing : Option Failure → List Noted
failing None = []
failing (Some failure) = Failed failure ∷ []

-- the history of a book with these records, and with that failure
abbrev pub history_with : List Record → Option Failure → List Noted
history_with records closed = map Added records ++ failing closed

abbrev pub records_in : List Noted → List Record
records_in [] = []
records_in (Added next ∷ xs) = next ∷ records_in xs
records_in (Failed failure ∷ xs) = records_in xs

abbrev pub failure_in : List Noted → Option Failure
failure_in [] = None
failure_in (Added next ∷ xs) = failure_in xs
failure_in (Failed failure ∷ xs) = Some failure

-- the records among some entries, with their positions
abbrev pub told_in : List (ℕ × Noted) → List Told
told_in [] = []
told_in ((place, Added next) ∷ xs) = (place, next) ∷ told_in xs
told_in ((place, Failed failure) ∷ xs) = told_in xs

-- the appends that failed among them
abbrev pub faults_in : List (ℕ × Noted) → List Failure
faults_in [] = []
faults_in ((place, Added next) ∷ xs) = faults_in xs
faults_in ((place, Failed failure) ∷ xs) = failure ∷ faults_in xs

-- A settlement closes its reservation.
abbrev pub ClosesEntry : Noted → Noted → Type 0
ClosesEntry (Added (Settle settlement)) (Added (Reserve reserved)) = settlement.number ≡ reserved.number
ClosesEntry later earlier = ⊥
