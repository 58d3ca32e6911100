-- One owner's journal from run to run.
use Rattle.std.specs.Prelude.{◌≡◌, ℕ, Bool, true, false, List, [], ◌∷◌, slice_get, Option, Some}
use Rattle.journal_records.specs.declared.records.Record.{Record}
use Rattle.journal_records.specs.declared.records.Record.TheVariants.{Grant}
use Rattle.budget_core.specs.Entries.{Entry}
use Rattle.budget_core.specs.Granting.{grant_behind, with_grant}
use Rattle.budget_core.specs.Legal.{MayFollow}
use Rattle.budget_ledger.specs.declared.failure.Failure.{Failure}
use Rattle.wire_lines.specs.Reply.{Replied}
use Rattle.owner_house.specs.Owner.{Owner}
use Rattle.owner_house.specs.House.{House}
use Rattle.query_server.specs.AnswerPath.Demand.{Demand}
use Rattle.query_server.specs.SessionCore.Code.{IsAnalyst}
use Rattle.query_server.specs.SessionCore.Meant.{wants}
use Rattle.query_server.specs.SessionCore.Turns.{meant_at}
use Rattle.query_server.specs.SessionCore.Exchanges.{Exchange}
use Rattle.query_server.specs.SessionCore.Gathered.{AreGathered, AreShut}
use Rattle.query_server.specs.SessionCore.Transcript.{first_new}
use Rattle.query_server.specs.SessionLaws.Growing.{IsMetOn}
use Rattle.successive_runs.specs.Left.{IsLeft}

-- A run: the lines of a script, or of sessions, that workers answered, with what that made of one owner's records and book; at which
-- places the replies were sent before it ended or was stopped; and the owner's records that it left.
pub record Run : Type 0 where
  pub count : ℕ
  pub crew : ℕ → ℕ
  pub exchanges : List Exchange
  pub records : List Record
  pub closed : Option Failure
  pub sent : ℕ → Bool
  pub left : List Record

-- The run found these records of the owner's. Who speaks is an analyst of the house, or hasn't said who it is. What a reply was made
-- on is kept before the reply is sent.
pub record IsRun (house : House) (draws : ℕ → ℕ → ℕ → ℕ) (o : ℕ) (owner : Owner) (found : List Record) (run : Run) : Type 0 where
  pub speakers : (place : ℕ) (x : Exchange) → slice_get run.exchanges place ≡ Some x → IsAnalyst house x.turn.who
  pub gathered : AreGathered house draws run.count run.crew o found run.exchanges run.records
  pub shut : AreShut house draws run.count run.crew o run.exchanges run.closed
  pub follows : (failure : Failure) → run.closed ≡ Some failure → MayFollow owner.entry run.records failure.pending
  pub leaves : IsLeft found run.records run.closed run.left
  pub kept : (place : ℕ) (x : Exchange) (asked : Owner) (demand : Demand) → run.sent place ≡ true → slice_get run.exchanges place ≡ Some x
      → meant_at house x.turn ≡ wants o asked demand → IsMetOn (draws o) (first_new found) asked demand found x run.left

-- no reply was sent, and all were
abbrev pub none_sent : ℕ → Bool
none_sent place = false

abbrev pub all_sent : ℕ → Bool
all_sent place = true

-- The owner granted these amounts behind some records, one after another. Each grant may follow.
abbrev pub AreGranted : Entry → (found : List Record) → (amounts : List ℕ) → (after : List Record) → Type 0
AreGranted entry found [] after = after ≡ found
AreGranted entry found (amount ∷ amounts) after =
    MayFollow entry found (Grant (grant_behind found amount)) × AreGranted entry (with_grant found amount) amounts after

-- The owner granted some amounts, or none.
abbrev pub MayHaveGranted : Entry → (found after : List Record) → Type 0
MayHaveGranted entry found after = (amounts : List ℕ) × AreGranted entry found amounts after

-- One run after another, each on what the one before it left and what was granted since; the first on these records and what was
-- granted then.
abbrev pub AreRuns :
    House → (draws : ℕ → ℕ → ℕ → ℕ) → (o : ℕ) → Owner → (found : List Record) → List Run → (last : List Record) → Type 0
AreRuns house draws o owner found [] last = MayHaveGranted owner.entry found last
AreRuns house draws o owner found (run ∷ runs) last = (start : List Record) × MayHaveGranted owner.entry found start
    × IsRun house draws o owner start run × AreRuns house draws o owner run.left runs last

-- The line at this place of this run demands this of the owner, and was sent this reply.
pub record WasSent (house : House) (o : ℕ) (owner : Owner) (runs : List Run) (i place : ℕ) (demand : Demand) (reply : Replied) : Type 0 where
  pub run : Run
  pub x : Exchange
  pub is_run : slice_get runs i ≡ Some run
  pub is_there : slice_get run.exchanges place ≡ Some x
  pub sent : run.sent place ≡ true
  pub meant : meant_at house x.turn ≡ wants o owner demand
  pub is_reply : x.reply ≡ reply
