-- what is recalled is what was settled
use Rattle.std.proofs.Common.{◌≡◌, ℕ, ◌==◌, Bool, true, false, List, length, Option, Some, None, option_map, refl, ap, subst, eqb-true}
use Rattle.std.specs.Prelude.{nat_le, if◌then◌else◌}
use Rattle.journal_records.specs.declared.records.Outcome.{Outcome}
use Rattle.journal_records.specs.declared.records.Outcome.TheVariants.{Answered, Exhausted, Lost}
use Rattle.journal_records.specs.declared.records.Reservation.{Reservation}
use Rattle.journal_records.specs.declared.records.Record.{Record}
use Rattle.budget_core.specs.declared.answers.Recall.TheVariants.{NotYours, Open, Lost as IsLost}
use Rattle.budget_core.specs.Counts.{reservation_of, outcome_of}
use Rattle.budget_core.specs.Answers.{standing, recalled_by, recalled_from}
use Rattle.answer_path.specs.Standing.{recall_reply}
use Rattle.owner_history.specs.Granted.{IsSettledFor, IsRecallBorneOut}

-- a settlement that is told is the one that there is
told_one : (records : List Record) (analyst n m : ℕ) (outcome other : Outcome) → IsSettledFor records analyst n outcome
    → ◌≡◌ {A = Option (ℕ × Outcome)} (Some (n, outcome)) (Some (m, other)) → IsSettledFor records analyst m other
told_one records analyst n m outcome other s is =
    let pair : ◌≡◌ {A = ℕ × Outcome} (n, outcome) (m, other) = cc (is) in
    let number : n ≡ m = ap (λ (z : ℕ × Outcome). z.0) pair in
    let settled : outcome ≡ other = ap (λ (z : ℕ × Outcome). z.1) pair in
    subst (λ (k : ℕ). IsSettledFor records analyst k other) number (subst (λ (u : Outcome). IsSettledFor records analyst n u) settled s)

module _ (start : ℕ) (records : List Record) (number analyst : ℕ) where
  standing_borne : (reserved : Reservation) → reservation_of records number ≡ Some reserved → reserved.analyst ≡ analyst → (o : Option Outcome) → outcome_of records number ≡ o
      → IsRecallBorneOut records analyst (recall_reply number (standing start number (length records) o))
  standing_borne reserved made ours (Some (Answered value)) is = λ n outcome said. told_one records analyst number n (Answered value) outcome (record { reserved = reserved; numbered = made; asked_by = ours; settled = is }) said
  standing_borne reserved made ours (Some Exhausted) is = λ n outcome said. told_one records analyst number n Exhausted outcome (record { reserved = reserved; numbered = made; asked_by = ours; settled = is }) said
  standing_borne reserved made ours (Some Lost) is = λ n outcome said. absurd (cc (said))
  standing_borne reserved made ours None is = here (nat_le start number)
    where
      here : (b : Bool) → IsRecallBorneOut records analyst (recall_reply number (if b then Open (length records) else IsLost (length records)))
      here true = λ n outcome said. absurd (cc (said))
      here false = λ n outcome said. absurd (cc (said))

  -- by the analyst who reserved it
  asked_borne : (reserved : Option Reservation) → reservation_of records number ≡ reserved → IsRecallBorneOut records analyst (recall_reply number (recalled_by start records number analyst (option_map (λ (reservation : Reservation). reservation.analyst) reserved)))
  asked_borne None is = λ n outcome said. absurd (cc (said))
  asked_borne (Some reserved) is = here (reserved.analyst == analyst) refl
    where
      here : (b : Bool) → (reserved.analyst == analyst) ≡ b
          → IsRecallBorneOut records analyst (recall_reply number (if b then standing start number (length records) (outcome_of records number) else NotYours (length records)))
      here true ours = standing_borne reserved is (eqb-true reserved.analyst analyst ours) (outcome_of records number) refl
      here false other = λ n outcome said. absurd (cc (said))

  -- The records bear out what they say of a number.
  pub recall_borne : IsRecallBorneOut records analyst (recall_reply number (recalled_from start records number analyst))
  recall_borne = asked_borne (reservation_of records number) refl
