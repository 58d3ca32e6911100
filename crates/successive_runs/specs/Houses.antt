-- One owner's journal from run to run, where each run has a house of its own.
use Rattle.std.specs.Prelude.{◌≡◌, ℕ, true, List, [], ◌∷◌, slice_get, Some}
use Rattle.journal_records.specs.declared.records.Record.{Record}
use Rattle.wire_lines.specs.Reply.{Replied}
use Rattle.owner_house.specs.Owner.{Owner}
use Rattle.owner_house.specs.House.{House, IsOwnerIn}
use Rattle.query_server.specs.AnswerPath.Demand.{Demand}
use Rattle.query_server.specs.SessionCore.Meant.{wants}
use Rattle.query_server.specs.SessionCore.Turns.{meant_at}
use Rattle.query_server.specs.SessionCore.Exchanges.{Exchange}
use Rattle.successive_runs.specs.Life.{Run, IsRun, MayHaveGranted}

-- a run, and the house that it was in
pub record Housed : Type 0 where
  pub house : House
  pub run : Run

-- The owner has this number in the run's house. The house's other owners, and their tables, may be others than in other runs.
pub record IsHousedRun (draws : ℕ → ℕ → ℕ → ℕ) (o : ℕ) (owner : Owner) (found : List Record) (housed : Housed) : Type 0 where
  pub listed : slice_get housed.house.owners o ≡ Some owner
  pub lawful : IsOwnerIn housed.house owner
  pub is_run : IsRun housed.house draws o owner found housed.run

-- One run after another, each on what the one before it left and what was granted since.
abbrev pub AreHousedRuns : (draws : ℕ → ℕ → ℕ → ℕ) → (o : ℕ) → Owner → (found : List Record) → List Housed → (last : List Record) → Type 0
AreHousedRuns draws o owner found [] last = MayHaveGranted owner.entry found last
AreHousedRuns draws o owner found (housed ∷ runs) last = (start : List Record) × MayHaveGranted owner.entry found start
    × IsHousedRun draws o owner start housed × AreHousedRuns draws o owner housed.run.left runs last

-- The line at this place of this run demands this of the owner, and was sent this reply.
pub record WasSentIn (o : ℕ) (owner : Owner) (runs : List Housed) (i place : ℕ) (demand : Demand) (reply : Replied) : Type 0 where
  pub housed : Housed
  pub x : Exchange
  pub is_run : slice_get runs i ≡ Some housed
  pub is_there : slice_get housed.run.exchanges place ≡ Some x
  pub sent : housed.run.sent place ≡ true
  pub meant : meant_at housed.house x.turn ≡ wants o owner demand
  pub is_reply : x.reply ≡ reply
