-- What is recalled of a number is how it was settled.
use Rattle.std.proofs.Common.{◌≡◌, ℕ, ◌==◌, Bool, true, false, Option, Some, None, if◌then◌else◌, length, refl, sym, subst}
use Rattle.std.specs.Prelude.{ℤ, nat_le}
use Rattle.journal_records.specs.declared.records.Outcome.{Outcome}
use Rattle.journal_records.specs.declared.records.Outcome.TheVariants.{Answered, Exhausted, Lost}
use Rattle.budget_core.specs.declared.answers.Recall.{Recall}
use Rattle.budget_core.specs.declared.answers.Recall.TheVariants.{Unknown, NotYours, Answer, Open, Lost as IsLost, Exhausted as IsExhausted}
use Rattle.budget_core.specs.Answers.{recalled, recalled_by, standing}
use Rattle.budget_core.specs.Counts.{asker_of, outcome_of}
use Rattle.budget_core.specs.Ledger.{Ledger, start_of}

-- these are an answer, or no noise, for what was settled so alone
abbrev Tells : Recall → Option Outcome → Type 0
Tells (Answer value seen) outcome = outcome ≡ Some (Answered value)
Tells (IsExhausted seen) outcome = outcome ≡ Some Exhausted
Tells (Unknown seen) outcome = Unit {0}
Tells (NotYours seen) outcome = Unit {0}
Tells (Open seen) outcome = Unit {0}
Tells (IsLost seen) outcome = Unit {0}

stands : (start number seen : ℕ) (outcome : Option Outcome) → Tells (standing start number seen outcome) outcome
stands start number seen (Some (Answered value)) = refl
stands start number seen (Some Exhausted) = refl
stands start number seen (Some Lost) = tt
stands start number seen None = either (nat_le start number)
  where
    either : (b : Bool) → Tells (if b then Open seen else IsLost seen) None
    either true = tt
    either false = tt

told : (ledger : Ledger) (number analyst : ℕ) → Tells (recalled ledger number analyst) (outcome_of ledger.records number)
told ledger number analyst = by_asker (asker_of ledger.records number)
  where
    either : (b : Bool) → Tells (if b then standing (start_of ledger) number (length ledger.records) (outcome_of ledger.records number) else NotYours (length ledger.records)) (outcome_of ledger.records number)
    either true = stands (start_of ledger) number (length ledger.records) (outcome_of ledger.records number)
    either false = tt

    by_asker : (asker : Option ℕ) → Tells (recalled_by (start_of ledger) ledger.records number analyst asker) (outcome_of ledger.records number)
    by_asker None = tt
    by_asker (Some asker) = either (asker == analyst)

pub answer_recalled : (ledger : Ledger) (number analyst : ℕ) (value : ℤ) (seen : ℕ) → Answer value seen ≡ recalled ledger number analyst → outcome_of ledger.records number ≡ Some (Answered value)
answer_recalled ledger number analyst value seen is = subst (λ (r : Recall). Tells r (outcome_of ledger.records number)) (sym is) (told ledger number analyst)

pub exhausted_recalled : (ledger : Ledger) (number analyst seen : ℕ) → IsExhausted seen ≡ recalled ledger number analyst → outcome_of ledger.records number ≡ Some Exhausted
exhausted_recalled ledger number analyst seen is = subst (λ (r : Recall). Tells r (outcome_of ledger.records number)) (sym is) (told ledger number analyst)
