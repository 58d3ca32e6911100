-- Replies where nothing failed.
use Rattle.std.specs.Prelude.{List, [], ◌∷◌, ⊤}
use Rattle.wire_lines.specs.Reply.{Replied, refused}
use Rattle.wire_lines.specs.Refusal.{by_disk, by_number, no_memory}
use Rattle.wire_lines.specs.declared.refusal.NumberRefusal.TheVariants.{Lost}
use Rattle.owner_history.specs.OwnerHouse.House.{House}
use Rattle.session_core.specs.Turns.{Turn, meant_at}
use Rattle.session_core.specs.Code.{WantsTooManyWalks}

-- Nothing failed: the reply doesn't say that memory ran out, before a reservation or after it, nor that the owner's disk failed
-- now or earlier.
abbrev pub NothingFailed : Replied → Type 0
NothingFailed (refused no_memory) = ⊥
NothingFailed (refused (by_number (Lost n))) = ⊥
NothingFailed (refused (by_disk refusal)) = ⊥
NothingFailed reply = ⊤

-- The same of a line that may be of a program that takes too many walks: of that one it isn't a failure that memory is said to have run out.
abbrev pub NothingFailedFor : (takes_too_many : Type 0) → Replied → Type 0
NothingFailedFor takes_too_many (refused no_memory) = takes_too_many
NothingFailedFor takes_too_many reply = NothingFailed reply

-- at each of these turns
abbrev pub NothingFailedAt : House → List Turn → List Replied → Type 0
NothingFailedAt house [] replies = ⊤
NothingFailedAt house (turn ∷ turns) [] = ⊤
NothingFailedAt house (turn ∷ turns) (reply ∷ replies) =
    NothingFailedFor (WantsTooManyWalks (meant_at house turn)) reply × NothingFailedAt house turns replies
