-- Two lines of two workers, where the second one's records stand between the first one's.
use Rattle.std.specs.Prelude.{◌≡◌, ℕ, zero, suc, List, [], ◌∷◌, ◌++◌, length}
use Rattle.journal_records.specs.declared.records.Outcome.{Outcome}
use Rattle.journal_records.specs.declared.records.Record.{Record}
use Rattle.budget_core.specs.declared.entry.Ask.{Ask}
use Rattle.budget_core.specs.declared.entry.Grant.{Grant}
use Rattle.budget_core.specs.Entries.{Entry}
use Rattle.budget_core.specs.Ledger.{settlement_for}
use Rattle.session_core.specs.OwnerHouse.Owner.{Owner, signature_of_view}
use Rattle.session_core.specs.AnswerPath.Query.{Query}
use Rattle.session_core.specs.AnswerPath.Verdict.{granted, IsVerdict}
use Rattle.session_core.specs.OwnerHouse.House.{House}
use Rattle.session_core.specs.AnswerPath.Demand.{asks}
use Rattle.session_core.specs.Meant.{wants}
use Rattle.session_core.specs.Turns.{meant_at}
use Rattle.session_core.specs.Exchanges.{Exchange}
use Rattle.session_core.specs.AnswerPath.Answered.{IsSettledBy, outcome_reply, granted_record}

-- the first place is the first worker's, and all others are the second one's
abbrev pub two_workers : ℕ → ℕ
two_workers zero = 0
two_workers (suc at) = 1

-- A line asks this owner, is granted on just these records, and settled behind later ones.
pub record IsSettledLater (house : House) (draws : ℕ → ℕ → ℕ → ℕ) (o : ℕ) (owner : Owner) (before : List Record) (x : Exchange) (query : Query)
    (asking : Ask) (grant : Grant) (outcome : Outcome) (place : ℕ) (later : List Record) : Type 0 where
  pub meant : meant_at house x.turn ≡ wants o owner (asks query)
  pub verdict : IsVerdict owner.entry (signature_of_view owner query.view) 0 before query (granted asking grant)
  pub settles : IsSettledBy owner (draws o) query grant.number outcome
  pub said : x.reply ≡ outcome_reply grant outcome
  pub told : x.told ≡ (place, granted_record asking grant) ∷ (length later, settlement_for owner.entry later grant.number outcome) ∷ []

abbrev pub three_records : Entry → Ask → Ask → Grant → Grant → Outcome → List Record
three_records entry a b c d t =
    granted_record a c ∷ granted_record b d ∷ settlement_for entry (granted_record a c ∷ granted_record b d ∷ []) d.number t ∷ []

abbrev pub four_records : Entry → Ask → Ask → Grant → Grant → Outcome → Outcome → List Record
four_records entry a b c d s t = three_records entry a b c d t ++ settlement_for entry (three_records entry a b c d t) c.number s ∷ []
