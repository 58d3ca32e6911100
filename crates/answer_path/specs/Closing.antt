-- What a line does to its owner's book where no other pass does anything to it: a second reading of `Shut`.
use Rattle.std.specs.Prelude.{◌≡◌, ℕ, ◌<◌, List, [], Option, Some, None}
use Rattle.budget_ledger.specs.declared.failure.Failure.{Failure}
use Rattle.wire_lines.specs.Reply.{Replied, answered, refused}
use Rattle.wire_lines.specs.Codes.{money_code}
use Rattle.wire_lines.specs.Refusal.{by_number, by_disk, by_money}
use Rattle.wire_lines.specs.declared.refusal.DiskRefusal.TheVariants.{Closed, Fault}
use Rattle.wire_lines.specs.declared.refusal.NumberRefusal.TheVariants.{Exhausted as NoNoise, Lost as NoAnswer}
use Rattle.owner_house.specs.Owner.{Owner}
use Rattle.owner_desk.specs.Passes.{Told}
use Rattle.answer_path.specs.Query.{Query}
use Rattle.answer_path.specs.Shut.{IsPendingOf}

-- the book was open before, and still is
abbrev pub StaysOpen : (before after : Option Failure) → Type 0
StaysOpen before after = (before ≡ None) × (after ≡ None)

-- A line is refused since an append had failed, and says at which count; or since its own append failed, which closes the
-- book; or it was answered, exhausted or lost, and the book stays open; any other reply leaves the book as it was, and 43 is said of an
-- open one.
-- If another pass shared the book, a line of its could close it in the midst of this one: then 42 could be told where the book
-- was open before, or after a reservation was added.
abbrev pub Closes :
    Owner → (ℕ → ℕ → ℕ) → Query → Replied → (told : List Told) → (before after : Option Failure) → Type 0
Closes owner draws query (refused (by_disk (Closed failed_at))) told before after =
    (failure : Failure) × (before ≡ Some failure) × (failed_at ≡ failure.failed_at) × (told ≡ []) × (after ≡ before)
Closes owner draws query (refused (by_disk Fault)) told before after =
    (failure : Failure) × (before ≡ None) × (after ≡ Some failure) × IsPendingOf owner draws query told failure.pending
Closes owner draws query (answered number value taken) told before after = StaysOpen before after
Closes owner draws query (refused (by_number (NoNoise number))) told before after = StaysOpen before after
Closes owner draws query (refused (by_number (NoAnswer number))) told before after = StaysOpen before after
Closes owner draws query (refused (by_money refusal)) told before after = (after ≡ before) × (42 < money_code refusal → before ≡ None)
Closes owner draws query reply told before after = after ≡ before
