-- `serve`: the connections of doors are served.
use Rattle.std.specs.Prelude.{◌≡◌, ◌⊎◌, true, false, ℕ, List, [], slice_get, Option, None, Some}
use Rattle.word_streams.specs.Draws.{draws_of}
use Rattle.budget_ledger.specs.declared.failure.Failure.{Failure}
use Rattle.owner_desk.specs.Passes.{Pass}
use Rattle.owner_house.specs.House.{house_of}
use Rattle.owner_house.specs.Owner.{Owner}
use Rattle.generated_run.specs.SessionCore.Code.{AreClosed, AreFresh, found_by}
use Rattle.generated_run.specs.SessionCore.Gathered.{AreGathered, AreShut}
use Rattle.generated_run.specs.SessionCore.Transcript.{Journals}
use Rattle.service_workers.specs.Sittings.{Sitting}
use Rattle.service_workers.specs.Crews.{AreHeldBy}
use Rattle.catalog_loading.specs.Steps.{FileStep}
use Rattle.catalog_loading.specs.Loaded.{Loading, header_of, in_versions, with_house, entry_at, owners_in}
use Rattle.query_server.specs.Work.{Work, to_serve}
use Rattle.query_server.specs.Duty.{Duty, Kind}
use Rattle.owner_books.specs.Shelves.{Shelf, EachDisk, IsOnlySynced}
use Rattle.owner_books.specs.Opened.{AreOpened, IsDiskNamed}
use Rattle.query_server.specs.Duty.{IsRefusalDue}
use Rattle.query_server.specs.Run.{WentOn}
use Rattle.query_server.specs.declared.end.Status.{Status}
use Rattle.query_server.specs.declared.end.Status.TheVariants.{Done, JournalRefused}

-- CATALOG, then KEY, then the tables of all owners
abbrev pub serve_steps : (catalog key : List ℕ) → (workers each : ℕ) → FileStep Work
serve_steps catalog key workers each = with_house (to_serve workers each) catalog key

abbrev pub serve_kind : (catalog key : List ℕ) → (workers each : ℕ) → Kind
serve_kind catalog key workers each =
    record { steps = serve_steps catalog key workers each; source = false; disks = true; doors = true; program = false }

-- a loaded house's sessions
abbrev pub SittingIn : Loading → (key : List ℕ) → Type 0
SittingIn loading key = Sitting (house_of loading.register) (draws_of key)

-- Sessions that so many workers held, each one after another, on the owners' books as they were opened: these books were closed behind
-- them with these records. All that the records have behind those found came of the sessions' lines, each owner's in some order; and
-- what shut a book is a line's own append that failed.
pub record IsHeldOver (loading : Loading) (key : List ℕ) (workers : ℕ) (old new : Shelf) (found : Journals) (before after : List Pass)
    (sittings : ℕ → List (SittingIn loading key)) (lasts : ℕ → List Pass)
    (held : AreHeldBy (house_of loading.register) (draws_of key) workers sittings lasts before after) : Type 0 where
  pub fresh : AreFresh (house_of loading.register) before
  pub begun : (o : ℕ) → found_by before o ≡ found o
  pub records : Journals
  pub closed : ℕ → Option Failure
  pub closes : AreClosed (house_of loading.register) after records closed
  pub gathered : (o : ℕ) (owner : Owner) → slice_get (house_of loading.register).owners o ≡ Some owner
      → AreGathered (house_of loading.register) (draws_of key) workers held.crew o (found o) held.exchanges (records o)
  pub shut : (o : ℕ) (owner : Owner) → slice_get (house_of loading.register).owners o ≡ Some owner
      → AreShut (house_of loading.register) (draws_of key) workers held.crew o held.exchanges (closed o)
  pub disks : EachDisk (owners_in loading) (λ o. WentOn (entry_at loading o) (header_of loading key o) (found o) (records o) (closed o)) old new

-- so many workers held sessions
pub record WereHeld (loading : Loading) (key : List ℕ) (workers : ℕ) (old new : Shelf) (found : Journals) : Type 0 where
  pub before : List Pass
  pub after : List Pass
  pub sittings : ℕ → List (SittingIn loading key)
  pub lasts : ℕ → List Pass
  pub held : AreHeldBy (house_of loading.register) (draws_of key) workers sittings lasts before after
  pub over : IsHeldOver loading key workers old new found before after sittings lasts held

-- What is due to a service: the line of the journal that is refused; or where all are opened, sessions are held, and nothing is written.
abbrev pub IsServiceDue : Loading → (key : List ℕ) → (workers : ℕ) → (old new : Shelf) → (status : Status) → (text : List ℕ) → Type 0
IsServiceDue loading key workers old new status text =
    IsRefusalDue loading key old new status text
    ⊎ ((versions : List ℕ) × (found : Journals) × AreOpened loading key old new versions found × (status ≡ Done) × (text ≡ [])
    × WereHeld (in_versions loading versions) key workers old new found)

-- What may become of the disks where a failure or want of memory ends a service: nothing is written to any, or sessions were held before.
abbrev pub MayStopService : Loading → (key : List ℕ) → (workers : ℕ) → (old new : Shelf) → Type 0
MayStopService loading key workers old new =
    EachDisk (owners_in loading) (λ _. IsOnlySynced) old new
    ⊎ ((versions : List ℕ) × (found : Journals) × AreOpened loading key old new versions found × WereHeld (in_versions loading versions) key workers old new found)

abbrev pub serve_duty : Loading → (key : List ℕ) → (workers each : ℕ) → Duty
serve_duty loading key workers each = record {
  due = λ old new script. IsServiceDue loading key workers old new;
  may_stop = MayStopService loading key workers;
  names_disk = IsDiskNamed loading key;
  statuses = λ status. (status ≡ Done) ⊎ (status ≡ JournalRefused);
  admits = None;
}
