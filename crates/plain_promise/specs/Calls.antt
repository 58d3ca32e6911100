-- Calls of `run_server` over one owner's journal, one after another.
use Rattle.std.specs.Prelude.{◌≡◌, ◌⊎◌, ℕ, zero, suc, true, false, Bool, List, [], ◌∷◌, slice_get, Option, Some, IfSome, option_map}
use Rattle.outside_disks.specs.Disks.{IsImageOf, Trace, WasImageOf, after as stepped, moment, seen_of}
use Rattle.outside_disks.specs.Stored.{Stored}
use Rattle.outside_disks.specs.Disks.Step.{Synced}
use Rattle.journal_records.specs.declared.records.Header.{Header}
use Rattle.journal_records.specs.declared.records.Record.{Record}
use Rattle.budget_core.specs.Entries.{Entry}
use Rattle.budget_journal.specs.Journals.{Stands}
use Rattle.budget_ledger.specs.declared.failure.Failure.{Failure}
use Rattle.wire_lines.specs.Reply.{Replied}
use Rattle.owner_house.specs.House.{House, IsOwnerIn}
use Rattle.owner_house.specs.Owner.{Owner}
use Rattle.successive_runs.specs.AnswerPath.Demand.{Demand}
use Rattle.successive_runs.specs.Run.{WentOn}
use Rattle.successive_runs.specs.SessionCore.Code.{IsAnalyst}
use Rattle.successive_runs.specs.SessionCore.Exchanges.{Exchange}
use Rattle.successive_runs.specs.SessionCore.Gathered.{AreGathered, AreShut}
use Rattle.successive_runs.specs.SessionCore.Meant.{wants}
use Rattle.successive_runs.specs.SessionCore.Turns.{meant_at}
use Rattle.successive_runs.specs.Life.{MayHaveGranted}
use Rattle.catalog_loading.specs.Files.{ReadsToCome}
use Rattle.owner_books.specs.Opened.{house_in}
use Rattle.query_server.specs.Promise.{IsAnsweredScript}
use Rattle.query_server.specs.declared.end.Status.{Status}
use Rattle.successive_runs.specs.Service.{IsServiceDone}
use Rattle.successive_runs.specs.ServiceOver.{Door}
use Rattle.successive_runs.specs.Shelves.{Shelf}

-- A call: its house, its lines and who answered them, the owner's records that it found and has, whether an append failed, the disk before
-- and after it, and which replies were sent before it ended or was stopped.
pub record Call : Type 0 where
  pub house : House
  pub workers : ℕ
  pub crew : ℕ → ℕ
  pub exchanges : List Exchange
  pub found : List Record
  pub records : List Record
  pub closed : Option Failure
  pub before : Stored
  pub after : Stored
  pub sent : ℕ → Bool

-- the file on a disk, where it is told
abbrev pub file_on : Stored → Option (List ℕ)
file_on shown = option_map seen_of shown.trace

-- The owner is one of the call's house, of which other owners may be others than another call's. The call opens the journal that the disk
-- holds, and its lines are answered over it: what `run` and `serve` promise of each owner.
pub record IsCall (draws : ℕ → ℕ → ℕ → ℕ) (o : ℕ) (owner : Owner) (header : Header) (call : Call) : Type 0 where
  pub listed : slice_get call.house.owners o ≡ Some owner
  pub lawful : IsOwnerIn call.house owner
  pub speakers : (place : ℕ) (x : Exchange) → slice_get call.exchanges place ≡ Some x → IsAnalyst call.house x.turn.who
  pub gathered : AreGathered call.house draws call.workers call.crew o call.found call.exchanges call.records
  pub shut : AreShut call.house draws call.workers call.crew o call.exchanges call.closed
  pub opens : IfSome (file_on call.before) (Stands header call.found)
  pub went : WentOn owner.entry header call.found call.records call.closed call.before call.after

-- A stop leaves this file of a call: once it has ended, whichever replies were sent; or at a moment since it opened the journal, with none.
abbrev pub IsLeftBy : Call → (file : List ℕ) → Type 0
IsLeftBy call file = ((t : Trace) × (call.after.trace ≡ Some t) × IsImageOf t file)
    ⊎ (((place : ℕ) → call.sent place ≡ false) × (s t : Trace) × (call.before.trace ≡ Some s) × (call.after.trace ≡ Some t)
    × WasImageOf (moment (stepped Synced s)) t file)

-- The owner may have granted some amounts between two files.
abbrev pub MayBeRaised : Entry → Header → (old new : List ℕ) → Type 0
MayBeRaised entry header old new = (found left : List Record) × Stands header found old × Stands header left new × MayHaveGranted entry found left

-- From one file to another by calls, each on a file that a stop left of the one before it, with grants between them.
abbrev pub AreCalls : (draws : ℕ → ℕ → ℕ → ℕ) → (o : ℕ) → Owner → Header → (file : List ℕ) → List Call → (last : List ℕ) → Type 0
AreCalls draws o owner header file [] last = MayBeRaised owner.entry header file last
AreCalls draws o owner header file (call ∷ calls) last = (start left : List ℕ) × MayBeRaised owner.entry header file start
    × (file_on call.before ≡ Some start) × IsCall draws o owner header call × IsLeftBy call left × AreCalls draws o owner header left calls last

-- whose a line of a call is
abbrev pub worker_of : List Call → (call place : ℕ) → ℕ
worker_of [] i place = 0
worker_of (call ∷ calls) zero place = call.crew place
worker_of (call ∷ calls) (suc i) place = worker_of calls i place

-- The line at this place of this call demands this of the owner, and was sent this reply.
pub record WasTold (o : ℕ) (owner : Owner) (calls : List Call) (i place : ℕ) (demand : Demand) (reply : Replied) : Type 0 where
  pub call : Call
  pub x : Exchange
  pub is_call : slice_get calls i ≡ Some call
  pub is_there : slice_get call.exchanges place ≡ Some x
  pub sent : call.sent place ≡ true
  pub meant : meant_at call.house x.turn ≡ wants o owner demand
  pub is_reply : x.reply ≡ reply

-- what an answered script was to the owner of this number, where these replies had been sent
abbrev pub script_call : (words : List (List ℕ)) (reads : ReadsToCome) (old new : Shelf) (script written : List ℕ)
    → IsAnsweredScript words reads old new script written → (o : ℕ) → (before after : Stored) → (sent : ℕ → Bool) → Call
script_call words reads old new script written a o before after sent = record {
  house = house_in a.loading a.versions;
  workers = a.workers;
  crew = a.answered.crew;
  exchanges = a.answered.exchanges;
  found = a.found o;
  records = a.answered.records o;
  closed = a.answered.closed o;
  before = before;
  after = after;
  sent = sent;
}

-- and a service
abbrev pub service_call : (words : List (List ℕ)) (reads : ReadsToCome) (old new : Shelf) (doors behind : List Door) (status : Status) (sink sunk : ℕ)
    → IsServiceDone words reads old new doors behind status sink sunk → (o : ℕ) → (before after : Stored) → (sent : ℕ → Bool) → Call
service_call words reads old new doors behind status sink sunk s o before after sent = record {
  house = house_in s.loading s.at.versions;
  workers = s.workers;
  crew = s.at.service.held.crew;
  exchanges = s.at.service.held.exchanges;
  found = s.at.found o;
  records = s.at.over.records o;
  closed = s.at.over.closed o;
  before = before;
  after = after;
  sent = sent;
}
