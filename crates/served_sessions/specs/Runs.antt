-- Sessions as a run of one owner's.
use Rattle.std.specs.Prelude.{◌≡◌, ℕ, ◌<◌, true, Bool, List, [], ◌∷◌, ◌++◌, take, Option, Some, slice_get}
use mathlib.Core.List.{IsPrefix}
use Rattle.journal_records.specs.declared.records.Record.{Record}
use Rattle.budget_core.specs.Legal.{MayFollow}
use Rattle.budget_ledger.specs.declared.failure.Failure.{Failure}
use Rattle.owner_desk.specs.Passes.{Pass, records_told}
use Rattle.owner_house.specs.Owner.{Owner}
use Rattle.owner_house.specs.House.{House}
use Rattle.successive_runs.specs.SessionCore.Exchanges.{Exchange, told_of}
use Rattle.successive_runs.specs.SessionCore.Gathered.{one_worker, part_of}
use Rattle.successive_runs.specs.SessionCore.Served.{AnswersOn}
use Rattle.successive_runs.specs.SessionCore.Transcript.{Journals, first_new}
use Rattle.successive_runs.specs.SessionCore.Code.{found_by}
use Rattle.successive_runs.specs.Left.{IsLeft}
use Rattle.successive_runs.specs.Life.{Run, MayHaveGranted}
use Rattle.successive_runs.specs.HeldSessions.Sittings.{Sitting, all_exchanges}
use Rattle.successive_runs.specs.HeldSessions.Kept.{AreHeld}

-- A record that couldn't be appended to an owner's journal may follow those that are there.
abbrev pub MayAllFollow : House → (records : Journals) → (closed : ℕ → Option Failure) → Type 0
MayAllFollow house records closed = (o : ℕ) (owner : Owner) (failure : Failure) → slice_get house.owners o ≡ Some owner
    → closed o ≡ Some failure → MayFollow owner.entry (records o) failure.pending

-- the records found, with those that the first of these exchanges were told
abbrev pub records_upto : House → (o : ℕ) → (found : List Record) → List Exchange → (n : ℕ) → List Record
records_upto house o found xs n = found ++ records_told (told_of house o (take n xs))

-- A stop behind so many of the exchanges leaves the records up to there, and perhaps some that the next ones would have added: it is
-- told as the run would have gone on.
pub record IsStoppedBehind (house : House) (o : ℕ) (found : List Record) (xs : List Exchange) (records : List Record) (closed : Option Failure)
    (n : ℕ) (left : List Record) : Type 0 where
  pub upto : IsPrefix (records_upto house o found xs n) left
  pub leaves : IsLeft found records closed left

-- Several workers were stopped so: each had answered the first of its lines, on records that are left, and what was sent are replies to
-- these.
pub record AreStopped (house : House) (draws : ℕ → ℕ → ℕ → ℕ) (count : ℕ) (crew : ℕ → ℕ) (o : ℕ) (found : List Record) (xs : List Exchange)
    (sent : ℕ → Bool) (left : List Record) : Type 0 where
  pub fronts : ℕ → List Exchange
  pub seen : ℕ → List Record
  pub begin : (i : ℕ) → i < count → IsPrefix (fronts i) (part_of crew i 0 xs)
  pub answers : (i : ℕ) → i < count → AnswersOn house draws o (first_new found) found (fronts i) (seen i)
  pub stand : (i : ℕ) → i < count → IsPrefix (seen i) left
  pub among : (place : ℕ) (x : Exchange) → sent place ≡ true → slice_get xs place ≡ Some x
      → (k : ℕ) × (slice_get (fronts (crew place)) k ≡ Some x)

module _ (house : House) (draws : ℕ → ℕ → ℕ → ℕ) where
  -- what one worker's sessions were for an owner, where these replies had been sent when they ended or were stopped, and these records left
  abbrev pub run_of : List (Sitting house draws) → (records : List Record) → (closed : Option Failure) → (sent : ℕ → Bool)
      → (left : List Record) → Run
  run_of sittings records closed sent left = record {
    count = 1;
    crew = one_worker;
    exchanges = all_exchanges house draws sittings;
    records = records;
    closed = closed;
    sent = sent;
    left = left;
  }

  -- A run of a server's, for one owner of which it found these records: one worker's sessions, one after another, on books that hold
  -- these; it ended, or was stopped behind so many of their lines.
  pub record IsServiceRun (o : ℕ) (found : List Record) (run : Run) : Type 0 where
    pub sittings : List (Sitting house draws)
    pub before : List Pass
    pub after : List Pass
    pub records : Journals
    pub closed : ℕ → Option Failure
    pub held : AreHeld house draws sittings before after records closed
    pub may : MayAllFollow house records closed
    pub begins : found_by before o ≡ found
    pub n : ℕ
    pub early : (place : ℕ) → run.sent place ≡ true → place < n
    pub stop : IsStoppedBehind house o found (all_exchanges house draws sittings) (records o) (closed o) n run.left
    pub is : run ≡ run_of sittings (records o) (closed o) run.sent run.left

  -- One such run after another, each on what the one before it left and what was granted since.
  abbrev pub AreServiceRuns : (o : ℕ) → Owner → (found : List Record) → List Run → (last : List Record) → Type 0
  AreServiceRuns o owner found [] last = MayHaveGranted owner.entry found last
  AreServiceRuns o owner found (run ∷ runs) last = (start : List Record) × MayHaveGranted owner.entry found start
      × IsServiceRun o start run × AreServiceRuns o owner run.left runs last
