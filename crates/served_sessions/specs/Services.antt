-- A service by several workers as a run of each owner's.
use Rattle.std.specs.Prelude.{◌≡◌, ℕ, Bool, List, Some}
use Rattle.word_streams.specs.Draws.{draws_of}
use Rattle.outside_disks.specs.Stored.{Stored}
use Rattle.journal_records.specs.declared.records.Record.{Record}
use Rattle.budget_journal.specs.Journals.{Stands}
use Rattle.owner_house.specs.Owner.{Owner}
use Rattle.owner_house.specs.House.{house_of}
use Rattle.successive_runs.specs.SessionCore.Transcript.{Journals}
use Rattle.catalog_loading.specs.Loaded.{Loading, header_of, in_versions}
use Rattle.successive_runs.specs.ServiceOver.{Door}
use Rattle.successive_runs.specs.PostedService.{Service}
use Rattle.successive_runs.specs.Shelves.{AreLost, Shelf}
use Rattle.successive_runs.specs.Serve.{WereHeld}
use Rattle.successive_runs.specs.Service.{IsServiceOver}
use Rattle.successive_runs.specs.Life.{Run, IsRun}

-- the sessions that a service held, in the house with the versions of its journals
abbrev pub held_in : (loading : Loading) (key : List ℕ) (workers each : ℕ) (old new : Shelf) (before after : List Door) (end : Service)
    → (at : IsServiceOver loading key workers each old new before after end) → WereHeld (in_versions loading at.versions) key workers old new at.found
held_in loading key workers each old new before after end at = record {
  before = at.first;
  after = at.last;
  sittings = at.service.sittings;
  lasts = at.service.lasts;
  held = at.service.held;
  over = at.over;
}

module _ (loading : Loading) (key : List ℕ) (workers : ℕ) (old new : Shelf) (found : Journals) (were : WereHeld loading key workers old new found)
    (o : ℕ) where
  -- what they were for this owner, where these replies had been sent when they were stopped, and these records were left
  abbrev pub crew_run_of : (sent : ℕ → Bool) → (left : List Record) → Run
  crew_run_of sent left = record {
    count = workers;
    crew = were.held.crew;
    exchanges = were.held.exchanges;
    records = were.over.records o;
    closed = were.over.closed o;
    sent = sent;
    left = left;
  }

  -- A file stands for records that such a run leaves.
  abbrev pub IsLeftOfService : Owner → (sent : ℕ → Bool) → (bytes : List ℕ) → Type 0
  IsLeftOfService owner sent bytes =
      (left : List Record) × Stands (header_of loading key o) left bytes
      × IsRun (house_of loading.register) (draws_of key) o owner (found o) (crew_run_of sent left)

  -- The count of faults of this owner's disk rose while the service was at work; of two disks both, or that of one whose other is empty.
  abbrev pub ItsDiskFailed : Type 0
  ItsDiskFailed = (before : Stored) → old o ≡ Some before → (after : Stored) × (new o ≡ Some after) × AreLost before after
