-- `derive` and `judge`: a program's derivation is written, or judged.
use Rattle.std.specs.Prelude.{◌≡◌, ◌⊎◌, true, false, ℕ, List, None}
use Rattle.outside_bays.specs.Bays.{Same}
use Rattle.catalog_loading.specs.Steps.{FileStep, ◌>>=◌, done}
use Rattle.derivation_commands.specs.Task.{Task, derive_steps, judge_steps, to_derive, to_judge}
use Rattle.derivation_commands.specs.Outcome.{IsOutcomeOf, Outcome, refused, too_long, written}
use Rattle.query_server.specs.Work.{Work, of_derivation}
use Rattle.query_server.specs.Duty.{Duty, Kind}
use Rattle.query_server.specs.Status.{derivation_too_long_text}
use Rattle.query_server.specs.declared.end.Status.{Status}
use Rattle.query_server.specs.declared.end.Status.TheVariants.{DerivationTooLong, Done, ProgramRefused}

-- the work of the task that these steps give
abbrev pub task_steps : FileStep Task → FileStep Work
task_steps steps = do
  task ← steps
  done (of_derivation task)

abbrev pub derivation_kind : FileStep Task → Kind
derivation_kind steps = record { steps = task_steps steps; source = false; disks = false; doors = false; program = true }

abbrev pub derive_kind : (catalog owner file : List ℕ) → Kind
derive_kind catalog owner file = derivation_kind (derive_steps catalog owner file)

abbrev pub judge_kind : (catalog owner file derivation : List ℕ) → Kind
judge_kind catalog owner file derivation = derivation_kind (judge_steps catalog owner file derivation)

-- the status and the text of what comes of a task
abbrev pub outcome_status : Outcome → Status
outcome_status (written text) = Done
outcome_status (refused line) = ProgramRefused
outcome_status too_long = DerivationTooLong

abbrev pub outcome_text : Outcome → List ℕ
outcome_text (written text) = text
outcome_text (refused line) = line
outcome_text too_long = derivation_too_long_text

-- What is due to a task: its outcome.
abbrev pub IsOutcomeDue : Task → (status : Status) → (text : List ℕ) → Type 0
IsOutcomeDue task status text = (outcome : Outcome) × IsOutcomeOf task outcome × (status ≡ outcome_status outcome) × (text ≡ outcome_text outcome)

-- What is judged was read, so it isn't too long.
abbrev pub task_statuses : Task → Status → Type 0
task_statuses (to_derive subject) status = (status ≡ Done) ⊎ ((status ≡ ProgramRefused) ⊎ (status ≡ DerivationTooLong))
task_statuses (to_judge subject derivation) status = (status ≡ Done) ⊎ (status ≡ ProgramRefused)

abbrev pub derivation_duty : Task → Duty
derivation_duty task = record {
  due = λ old new script. IsOutcomeDue task;
  may_stop = Same;
  names_disk = λ old new text. ⊥;
  statuses = task_statuses task;
  judges = None;
}
