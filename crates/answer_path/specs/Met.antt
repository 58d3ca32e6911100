-- A demand is met by a reply, which may add records.
use Rattle.std.specs.Prelude.{◌≡◌, ◌⊎◌, ℕ, List, [], ◌++◌, length}
use Rattle.std.specs.List.{enumerate_from}
use Rattle.journal_records.specs.declared.records.Record.{Record}
use Rattle.budget_core.specs.Answers.{recalled_from, left_by, mine_by}
use Rattle.wire_lines.specs.Reply.{Replied}
use Rattle.owner_house.specs.Owner.{Owner}
use Rattle.owner_desk.specs.Passes.{Told}
use Rattle.answer_path.specs.Demand.{Demand, asks, recalls, balances, spends}
use Rattle.answer_path.specs.Answered.{IsAsked, IsAnswered, IsUnanswered}
use Rattle.answer_path.specs.Standing.{IsRecalled, IsBalance, IsSpending, recall_reply, left_reply, mine_reply}

-- A demand is met on some of the owner's records, which begin with those that its line had seen; what it added, with positions,
-- and the records known after it. Other lines may add records meanwhile. Only a query adds any.
unfoldable pub IsMet :
    Owner → (draws : ℕ → ℕ → ℕ) → (start : ℕ) → Demand → (seen : List Record) → Replied → (told : List Told) → (after : List Record) → Type 0
IsMet owner draws start (asks query) seen reply told after = IsAsked owner draws start query seen reply told after
IsMet owner draws start (recalls analyst number) seen reply told after = IsRecalled start analyst number seen reply after × (told ≡ [])
IsMet owner draws start balances seen reply told after = IsBalance owner.entry seen reply after × (told ≡ [])
IsMet owner draws start (spends analyst) seen reply told after = IsSpending owner.entry analyst seen reply after × (told ≡ [])

-- The same on just the records that were known: what it adds stands right behind them.
unfoldable pub IsMetExactly :
    Owner → (draws : ℕ → ℕ → ℕ) → (start : ℕ) → Demand → (seen : List Record) → Replied → (told : List Told) → (after : List Record) → Type 0
IsMetExactly owner draws start (asks query) seen reply told after =
    (added : List Record) × (IsAnswered owner draws start seen query reply added ⊎ IsUnanswered reply added)
    × (told ≡ enumerate_from (length seen) added) × (after ≡ seen ++ added)
IsMetExactly owner draws start (recalls analyst number) seen reply told after =
    (reply ≡ recall_reply number (recalled_from start seen number analyst)) × (told ≡ []) × (after ≡ seen)
IsMetExactly owner draws start balances seen reply told after =
    (reply ≡ left_reply (left_by owner.entry seen)) × (told ≡ []) × (after ≡ seen)
IsMetExactly owner draws start (spends analyst) seen reply told after =
    (reply ≡ mine_reply (mine_by owner.entry seen analyst)) × (told ≡ []) × (after ≡ seen)
