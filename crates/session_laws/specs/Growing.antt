-- A worker's replies are made on records that grow along its lines.
use Rattle.std.specs.Prelude.{◌≡◌, ℕ, ◌<◌, List, slice_get, Some}
use mathlib.Core.List.{IsPrefix}
use Rattle.journal_records.specs.declared.records.Record.{Record}
use Rattle.session_core.specs.OwnerHouse.Owner.{Owner}
use Rattle.session_core.specs.OwnerHouse.House.{House}
use Rattle.session_core.specs.AnswerPath.Demand.{Demand}
use Rattle.session_core.specs.Meant.{wants}
use Rattle.session_core.specs.Turns.{meant_at}
use Rattle.session_core.specs.Exchanges.{Exchange}
use Rattle.session_core.specs.Served.{MeetsOnSome}
use Rattle.session_core.specs.Transcript.{first_new}

-- What a demand was met on.
pub record IsMetOn (draws : ℕ → ℕ → ℕ) (start : ℕ) (owner : Owner) (demand : Demand) (least : List Record) (x : Exchange)
    (records : List Record) : Type 0 where
  pub seen : List Record
  pub after : List Record
  pub begins : IsPrefix least seen
  pub meets : MeetsOnSome draws start owner demand seen x after
  pub stands : IsPrefix after records

-- A worker's lines on an owner: each is met on records that begin with the least and stand in the owner's, and of two the later one on
-- such as begin with all that the earlier one saw and added. Numbers from start on are of this run.
pub record AreGrowingFrom (house : House) (draws : ℕ → ℕ → ℕ → ℕ) (o start : ℕ) (least : List Record) (ys : List Exchange)
    (records : List Record) : Type 0 where
  pub each : (k : ℕ) (y : Exchange) (owner : Owner) (demand : Demand) → slice_get ys k ≡ Some y
      → meant_at house y.turn ≡ wants o owner demand → IsMetOn (draws o) start owner demand least y records
  pub grow : (j k : ℕ) (x y : Exchange) (owner : Owner) (demand other : Demand) → j < k → slice_get ys j ≡ Some x → slice_get ys k ≡ Some y
      → meant_at house x.turn ≡ wants o owner demand → meant_at house y.turn ≡ wants o owner other
      → (first : IsMetOn (draws o) start owner demand least x records)
      × IsMetOn (draws o) start owner other first.after y records

-- The same from the records that a run found.
abbrev pub AreGrowing : House → (ℕ → ℕ → ℕ → ℕ) → (o : ℕ) → (found : List Record) → List Exchange → (records : List Record) → Type 0
AreGrowing house draws o found ys records = AreGrowingFrom house draws o (first_new found) found ys records
