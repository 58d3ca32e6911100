-- Replies whose lines add no record, and what they leave of a pass.
use Rattle.std.specs.Prelude.{◌≡◌, ◌⊎◌, ℕ, ◌++◌, Some, ⊤}
use mathlib.Core.List.{IsPrefix}
use Rattle.budget_ledger.specs.declared.failure.Failure.{Failure}
use Rattle.wire_lines.specs.Reply.{Replied, answered, refused}
use Rattle.wire_lines.specs.Refusal.{by_disk, by_number}
use Rattle.wire_lines.specs.declared.refusal.DiskRefusal.TheVariants.{Closed}
use Rattle.wire_lines.specs.declared.refusal.NumberRefusal.TheVariants.{Exhausted as NoNoise, Lost as NoAnswer}
use Rattle.owner_desk.specs.Passes.{Pass, closing, records_told}
use Rattle.owner_desk.specs.Answers.{PassStays}

-- No record is added for this reply: it is no answer, and neither 50, 51, 42 nor 52. So it is a refusal by the budget (40, 41), what is
-- said to a recall (60 and 61 too) or of the budget, or what is said before an owner's book is asked.
abbrev pub AddsNone : Replied → Type 0
AddsNone (answered number value taken) = ⊥
AddsNone (refused (by_number (NoNoise number))) = ⊥
AddsNone (refused (by_number (NoAnswer number))) = ⊥
AddsNone (refused (by_disk refusal)) = ⊥
AddsNone reply = ⊤

-- 42, which says at which count of failed calls the book was shut
abbrev pub IsShutOut : Replied → Type 0
IsShutOut reply = (failed_at : ℕ) × (reply ≡ refused (by_disk (Closed failed_at)))

-- The line adds no record: by its reply, or it is told 42 where its pass had seen the book shut before. (Where it hadn't, another pass may
-- have shut the book behind the line's reservation, which stays.)
abbrev pub IsIdle : Pass → Replied → Type 0
IsIdle before reply = AddsNone reply ⊎ (IsShutOut reply × ((failure : Failure) × (before.failure ≡ Some failure)))

-- The pass's own records and its own appends that failed are as they were, and what it has seen goes on from what it had.
abbrev pub LeavesBook : (before after : Pass) → Type 0
LeavesBook before after = IsPrefix before.seen after.seen × PassStays before after.seen after

-- All that was added is the pass's own, and so is the append that shut the book: no other pass has added to it.
pub record IsAlone (pass : Pass) : Type 0 where
  pub seen : pass.seen ≡ pass.opened.ledger.found ++ records_told pass.own
  pub shut : pass.faults ≡ closing pass.failure
