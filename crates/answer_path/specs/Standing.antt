-- What is said of a number, of the budget and of what an analyst has spent, by an owner's records.
use Rattle.std.specs.Prelude.{◌≡◌, ℕ, List, Some, None}
use mathlib.Core.List.{IsPrefix}
use Rattle.journal_records.specs.declared.records.Record.{Record}
use Rattle.journal_records.specs.declared.records.Outcome.TheVariants.{Answered, Exhausted as RanOut, Lost as WasLost}
use Rattle.budget_core.specs.declared.answers.Recall.{Recall}
use Rattle.budget_core.specs.declared.answers.Recall.TheVariants.{Unknown, NotYours, Answer, Open, Lost, Exhausted}
use Rattle.budget_core.specs.declared.answers.Left.{Left}
use Rattle.budget_core.specs.declared.answers.Mine.{Mine}
use Rattle.budget_core.specs.Entries.{Entry}
use Rattle.budget_core.specs.Answers.{recalled_from, left_by, mine_by}
use Rattle.wire_lines.specs.Reply.{Replied, recalled, remaining, spending, refused}
use Rattle.wire_lines.specs.Refusal.{by_number}
use Rattle.wire_lines.specs.declared.refusal.NumberRefusal.TheVariants.{Unknown as NoNumber, NotYours as AnotherAnalysts}

-- what is told of a number
abbrev pub recall_reply : (number : ℕ) → Recall → Replied
recall_reply number (Unknown seen) = refused (by_number (NoNumber number seen))
recall_reply number (NotYours seen) = refused (by_number (AnotherAnalysts number seen))
recall_reply number (Answer value seen) = recalled number (Some (Answered value)) seen
recall_reply number (Open seen) = recalled number None seen
recall_reply number (Lost seen) = recalled number (Some WasLost) seen
recall_reply number (Exhausted seen) = recalled number (Some RanOut) seen

-- what is told of the budget
abbrev pub left_reply : Left → Replied
left_reply left = remaining left.spent left.budget left.seen

-- what an analyst is told of its own spending
abbrev pub mine_reply : Mine → Replied
mine_reply mine = spending mine.spent mine.limit mine.seen

-- What an analyst is told of a number where its line saw these of the owner's records, and the records after it: by some
-- records that begin with those seen. Nothing is added.
unfoldable pub IsRecalled : (start analyst number : ℕ) → (seen : List Record) → Replied → (after : List Record) → Type 0
IsRecalled start analyst number seen reply after =
    (g : List Record) × IsPrefix seen g × (reply ≡ recall_reply number (recalled_from start g number analyst)) × (after ≡ g)

-- the same of the budget
unfoldable pub IsBalance : Entry → (seen : List Record) → Replied → (after : List Record) → Type 0
IsBalance entry seen reply after =
    (g : List Record) × IsPrefix seen g × (reply ≡ left_reply (left_by entry g)) × (after ≡ g)

-- the same of an analyst's own spending
unfoldable pub IsSpending : Entry → (analyst : ℕ) → (seen : List Record) → Replied → (after : List Record) → Type 0
IsSpending entry analyst seen reply after =
    (g : List Record) × IsPrefix seen g × (reply ≡ mine_reply (mine_by entry g analyst)) × (after ≡ g)
