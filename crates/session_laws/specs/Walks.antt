-- Lines with programs that take too many walks.
use Rattle.std.specs.Prelude.{◌≡◌, ℕ, List, [], slice_get, Some}
use Rattle.wire_lines.specs.Refusal.{no_memory}
use Rattle.wire_lines.specs.Reply.{refused}
use Rattle.session_core.specs.OwnerHouse.Owner.{Owner}
use Rattle.session_core.specs.OwnerHouse.House.{House}
use Rattle.session_core.specs.AnswerPath.Demand.{Demand}
use Rattle.session_core.specs.Meant.{wants}
use Rattle.session_core.specs.Turns.{meant_at}
use Rattle.session_core.specs.Exchanges.{Exchange}
use Rattle.session_core.specs.Code.{WantsTooManyWalks}

-- Each line that asks this owner such a program is told that memory ran out, and adds no record.
abbrev pub AreWalksTold : House → (o : ℕ) → List Exchange → Type 0
AreWalksTold house o xs = (k : ℕ) (x : Exchange) (owner : Owner) (demand : Demand) → slice_get xs k ≡ Some x
    → meant_at house x.turn ≡ wants o owner demand → WantsTooManyWalks (wants o owner demand) → (x.reply ≡ refused no_memory) × (x.told ≡ [])
