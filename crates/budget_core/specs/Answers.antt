-- What a ledger answers about its records.
use Rattle.std.specs.Prelude.{ℕ, ◌+◌, ◌-◌, ◌==◌, nat_le, Bool, List, length, count_by, Option, Some, None, if◌then◌else◌, ⊤}
use Rattle.journal_records.specs.declared.records.Outcome.{Outcome}
use Rattle.journal_records.specs.declared.records.Outcome.TheVariants.{Answered, Exhausted, Lost}
use Rattle.journal_records.specs.declared.records.Record.{Record}
use Rattle.journal_records.specs.Records.{outcome_in}
use Rattle.budget_core.specs.declared.answers.Recall.{Recall}
use Rattle.budget_core.specs.declared.answers.Recall.TheVariants.{Unknown, NotYours, Answer, Open, Lost as IsLost, Exhausted as IsExhausted}
use Rattle.budget_core.specs.declared.answers.Left.{Left}
use Rattle.budget_core.specs.declared.answers.Mine.{Mine}
use Rattle.budget_core.specs.declared.answers.Counts.{Counts}
use Rattle.budget_core.specs.declared.answers.FoundFault.{FoundFault}
use Rattle.budget_core.specs.declared.answers.FoundFault.TheVariants.{NoMemory, Astray}
use Rattle.budget_core.specs.Cost.{cost_of, budget_of}
use Rattle.budget_core.specs.Counts.{reservations_of, outcome_of, is_exhaustion, asker_of}
use Rattle.budget_core.specs.Entries.{Entry, limit_of}
use Rattle.budget_core.specs.Events.{is_answer}
use Rattle.budget_core.specs.Ledger.{Ledger, start_of}
use Rattle.budget_core.specs.Legal.{IsFirstAstray}
use Rattle.budget_core.specs.Mine.{spent_by}

-- How a reservation stands: by its settlement; without one it is open where it is of this run, and lost otherwise.
abbrev pub standing : (start number seen : ℕ) → Option Outcome → Recall
standing start number seen (Some (Answered value)) = Answer value seen
standing start number seen (Some Exhausted) = IsExhausted seen
standing start number seen (Some Lost) = IsLost seen
standing start number seen None = if nat_le start number then Open seen else IsLost seen

-- what an analyst is told of a number on these records, by who reserved it
abbrev pub recalled_by : (start : ℕ) → List Record → (number analyst : ℕ) → (asker : Option ℕ) → Recall
recalled_by start records number analyst None = Unknown (length records)
recalled_by start records number analyst (Some asker) =
    if asker == analyst
    then standing start number (length records) (outcome_of records number)
    else NotYours (length records)

-- what an analyst is told of a number on these records; reservations from start on are of this run
abbrev pub recalled_from : (start : ℕ) → List Record → (number analyst : ℕ) → Recall
recalled_from start records number analyst = recalled_by start records number analyst (asker_of records number)

-- what a ledger tells an analyst of a number
abbrev pub recalled : Ledger → (number analyst : ℕ) → Recall
recalled ledger number analyst = recalled_from (start_of ledger) ledger.records number analyst

-- what these records leave of the budget, and how many they are
abbrev pub left_by : Entry → List Record → Left
left_by entry records = record { spent = cost_of entry records; budget = budget_of entry records; seen = length records }

-- what a ledger has left
abbrev pub left_of : Ledger → Left
left_of ledger = left_by ledger.entry ledger.records

-- what these records say that an analyst has spent, what it may spend at most, and how many they are
abbrev pub mine_by : Entry → List Record → (analyst : ℕ) → Mine
mine_by entry records analyst = record { spent = spent_by entry records analyst; limit = limit_of entry analyst; seen = length records }

-- what a ledger tells an analyst of its own spending
abbrev pub mine_of : Ledger → (analyst : ℕ) → Mine
mine_of ledger analyst = mine_by ledger.entry ledger.records analyst

-- the record settles a number with an answer
abbrev pub is_answered : Record → Bool
is_answered next = is_answer (outcome_in next)

-- the record settles a number whose sampler ran out of draws
abbrev pub is_exhausted : Record → Bool
is_exhausted next = is_exhaustion (outcome_in next)

-- how many reservations there are, how many of them are answered and how many exhausted; all others are lost
abbrev pub counts_of : List Record → Counts
counts_of records = record {
  reservations = length (reservations_of records);
  answered = count_by is_answered records;
  exhausted = count_by is_exhausted records;
  lost = length (reservations_of records) - (count_by is_answered records + count_by is_exhausted records);
}

-- why found records make no ledger
abbrev pub IsFoundFault : Entry → List Record → FoundFault → Type 0
IsFoundFault entry records NoMemory = ⊤
IsFoundFault entry records (Astray k) = IsFirstAstray entry records k
