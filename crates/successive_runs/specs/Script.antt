-- An answered script as a run of each owner's.
use Rattle.std.specs.Prelude.{ℕ, Bool, List}
use Rattle.word_streams.specs.Draws.{draws_of}
use Rattle.journal_records.specs.declared.records.Record.{Record}
use Rattle.budget_journal.specs.Journals.{Stands}
use Rattle.owner_house.specs.Owner.{Owner}
use Rattle.owner_house.specs.House.{house_of}
use Rattle.query_server.specs.SessionCore.Transcript.{Journals}
use Rattle.catalog_loading.specs.Loaded.{Loading, header_of}
use Rattle.query_server.specs.Shelves.{Shelf}
use Rattle.query_server.specs.Run.{IsScriptAnswered}
use Rattle.successive_runs.specs.Life.{Run, IsRun}

module _ (loading : Loading) (key : List ℕ) (workers : ℕ) (old new : Shelf) (found : Journals) (script text : List ℕ)
    (done : IsScriptAnswered loading key workers old new found script text) (o : ℕ) where
  -- what it is for this owner, where it had sent these replies when it was stopped, and left these records
  abbrev pub run_of : (sent : ℕ → Bool) → (left : List Record) → Run
  run_of sent left = record {
    count = workers;
    crew = done.crew;
    exchanges = done.exchanges;
    records = done.records o;
    closed = done.closed o;
    sent = sent;
    left = left;
  }

  -- A file stands for records that such a run leaves.
  abbrev pub IsLeftOf : Owner → (sent : ℕ → Bool) → (bytes : List ℕ) → Type 0
  IsLeftOf owner sent bytes =
      (left : List Record) × Stands (header_of loading key o) left bytes
      × IsRun (house_of loading.register) (draws_of key) o owner (found o) (run_of sent left)
