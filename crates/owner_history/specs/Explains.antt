-- Programs explain records.
use Rattle.std.specs.Prelude.{◌≡◌, ℕ, ℤ, ◌+ℤ◌, List, length, slice_get, Option, Some, None, ⊤}
use Rattle.journal_records.specs.declared.records.Outcome.{Outcome}
use Rattle.journal_records.specs.declared.records.Outcome.TheVariants.{Answered, Exhausted, Lost}
use Rattle.journal_records.specs.declared.records.Reservation.{Reservation}
use Rattle.journal_records.specs.declared.records.Record.{Record}
use Rattle.budget_core.specs.Counts.{reservations_of, outcome_of}
use Rattle.sha2.specs.Sha256.{sha256}
use Rattle.answer_path.specs.Admission.{HasValue}
use Rattle.answer_path.specs.OwnerHouse.Owner.{Owner, signature_of_view, rows_of_view}
use Rattle.answer_path.specs.Program.{IsCharged}
use Rattle.answer_path.specs.Noise.{noise_at}

-- An answer is the program's value in the reservation's view, plus the noise of the number's own draws.
pub record IsNoisedValue (owner : Owner) (draws : ℕ → ℕ) (reserved : Reservation) (program : List ℕ) (answer : ℤ) : Type 0 where
  pub value : ℤ
  pub noise : ℤ
  pub has_value : HasValue (signature_of_view owner reserved.view) (rows_of_view owner reserved.view) program value
  pub has_noise : noise_at reserved.e draws ≡ Some noise
  pub sum : answer ≡ value +ℤ noise

-- what explains how a reservation was settled: nothing has to explain one that is open or lost
abbrev pub ExplainsOutcome : Owner → (ℕ → ℕ) → Reservation → List ℕ → Option Outcome → Type 0
ExplainsOutcome owner draws reserved program None = ⊤
ExplainsOutcome owner draws reserved program (Some (Answered answer)) = IsNoisedValue owner draws reserved program answer
ExplainsOutcome owner draws reserved program (Some Exhausted) = noise_at reserved.e draws ≡ None
ExplainsOutcome owner draws reserved program (Some Lost) = ⊤

-- A reservation has its program's digest, is charged by its sensitivity over the tables of the reservation's view, and settled
-- by its value and noise.
pub record IsExplained (owner : Owner) (draws : ℕ → ℕ) (reserved : Reservation) (program : List ℕ) (outcome : Option Outcome) : Type 0 where
  pub digest : reserved.digest ≡ sha256 program
  pub charged : IsCharged (signature_of_view owner reserved.view) program reserved.p reserved.q
  pub settled : ExplainsOutcome owner draws reserved program outcome

-- There is a program for each reservation, in order, and it explains it. The owner's numbers have these draws.
pub record Explains (owner : Owner) (draws : ℕ → ℕ → ℕ) (programs : List (List ℕ)) (records : List Record) : Type 0 where
  pub each_has : length programs ≡ length (reservations_of records)
  pub explained : (n : ℕ) (program : List ℕ) (reserved : Reservation)
      → slice_get programs n ≡ Some program → slice_get (reservations_of records) n ≡ Some reserved
      → IsExplained owner (draws n) reserved program (outcome_of records n)
