-- `run`: a script is answered.
use Rattle.std.specs.Prelude.{◌≡◌, ◌⊎◌, true, false, ℕ, ◌^◌, ◌<◌, ◌≤◌, List, length, map, slice_get, Option, None, Some, IfSome}
use mathlib.Core.List.{IsPrefix}
use Rattle.std.specs.List.{flat_map}
use Rattle.word_streams.specs.Draws.{draws_of}
use Rattle.outside_disks.specs.Disks.{Passes, WhereTold, noted}
use Rattle.outside_disks.specs.Stored.{Stored}
use Rattle.outside_disks.specs.Disks.Step.{Synced}
use Rattle.journal_records.specs.declared.records.Header.{Header}
use Rattle.journal_records.specs.declared.records.Record.{Record}
use Rattle.budget_core.specs.Entries.{Entry}
use Rattle.budget_core.specs.Legal.{MayFollow}
use Rattle.budget_ledger.specs.Account.{IsKeptNow, IsMoment}
use Rattle.budget_ledger.specs.declared.failure.Failure.{Failure}
use Rattle.wire_lines.specs.Reply.{reply_text}
use Rattle.owner_house.specs.House.{house_of}
use Rattle.owner_house.specs.Owner.{Owner}
use Rattle.generated_run.specs.SessionCore.Blocks.{crew_of, script_blocks}
use Rattle.generated_run.specs.SessionCore.Exchanges.{Exchange}
use Rattle.generated_run.specs.SessionCore.Gathered.{AreShut, IsGatheredScript}
use Rattle.generated_run.specs.SessionCore.Transcript.{Journals}
use Rattle.catalog_loading.specs.Steps.{FileStep}
use Rattle.catalog_loading.specs.Loaded.{Loading, header_of, in_versions, with_house, entry_at, owners_in}
use Rattle.query_server.specs.Work.{Work, to_answer}
use Rattle.query_server.specs.Duty.{Duty, Kind}
use Rattle.query_server.specs.Mirrors.{TwinsWentOn}
use Rattle.owner_books.specs.Shelves.{Shelf, AreLost, EachDisk, IsOnlySynced}
use Rattle.owner_books.specs.Opened.{AreOpened, IsDiskNamed}
use Rattle.query_server.specs.Duty.{IsRefusalDue}
use Rattle.query_server.specs.Status.{too_long_text}
use Rattle.query_server.specs.declared.end.Status.{Status}
use Rattle.query_server.specs.declared.end.Status.TheVariants.{Done, JournalRefused, ScriptTooLong}

-- the most bytes of a script
abbrev pub script_limit : ℕ
script_limit = 2 ^ 24

-- CATALOG, then KEY, then the tables of all owners
abbrev pub run_steps : (catalog key : List ℕ) → (workers : ℕ) → FileStep Work
run_steps catalog key workers = with_house (to_answer workers) catalog key

abbrev pub run_kind : (catalog key : List ℕ) → (workers : ℕ) → Kind
run_kind catalog key workers = record { steps = run_steps catalog key workers; source = true; disks = true; doors = false; program = false }

-- An owner's disk through a run. Each file that a stop may have left since its journal was opened, which synced the disk, stands
-- for the first of these records, among them those found; where an append failed, it may have that one's record too. What a stop
-- leaves now stands for all of them. The disk's count of faults rose where an append failed, of a record that may follow them, and
-- else it stands still. Two disks say this each for itself: an append failed where it failed on
-- all that were in use, so that both counts rose, or that of one whose other is empty.
pub record WentOn (entry : Entry) (header : Header) (found records : List Record) (closed : Option Failure) (before after : Stored) : Type 0 where
  pub begins : IsPrefix found records
  pub moments : WhereTold (Passes (IsMoment header found records closed)) (noted Synced before.trace) after.trace
  pub kept : IfSome after.trace (IsKeptNow header records closed)
  pub counts : before.faults ≤ after.faults
  pub steady : closed ≡ None → after.faults ≡ before.faults
  pub failed : (failure : Failure) → closed ≡ Some failure → AreLost before after × (before.twins ≡ None → failure.failed_at ≡ after.faults)
  pub follows : (failure : Failure) → closed ≡ Some failure → MayFollow entry records failure.pending
  pub twins : TwinsWentOn header found records closed before.twins after.twins

-- A script was answered by so many workers, each at the places of its own blocks and in any order, where these records were found. The replies
-- are the text; an owner's disk has its records and, by the replies, failed or didn't.
pub record IsScriptAnswered (loading : Loading) (key : List ℕ) (workers : ℕ) (old new : Shelf) (found : Journals) (script text : List ℕ) :
    Type 0 where
  pub crew : ℕ → ℕ
  -- block k of the script is worker k mod workers'
  pub dealt : (at : ℕ) → crew at ≡ crew_of workers 0 (script_blocks script) at
  pub exchanges : List Exchange
  pub records : Journals
  pub gathered : IsGatheredScript (house_of loading.register) (draws_of key) workers crew found script exchanges records
  pub written : text ≡ flat_map reply_text (map (λ x. x.reply) exchanges)
  -- what became of each owner's book: an append to its journal failed, or none did
  pub closed : ℕ → Option Failure
  pub shut : (o : ℕ) (owner : Owner) → slice_get (house_of loading.register).owners o ≡ Some owner
      → AreShut (house_of loading.register) (draws_of key) workers crew o exchanges (closed o)
  pub disks : EachDisk (owners_in loading) (λ o. WentOn (entry_at loading o) (header_of loading key o) (found o) (records o) (closed o)) old new

-- the script is answered, or has too many bytes, and then no disk was written
abbrev pub IsAnswerDue :
    Loading → (key : List ℕ) → (workers : ℕ) → (old new : Shelf) → (found : Journals) → (script : List ℕ) → (status : Status) → (text : List ℕ) → Type 0
IsAnswerDue loading key workers old new found script status text =
    ((status ≡ Done) × (length script ≤ script_limit) × IsScriptAnswered loading key workers old new found script text)
    ⊎ ((status ≡ ScriptTooLong) × (script_limit < length script) × (text ≡ too_long_text) × EachDisk (owners_in loading) (λ _. IsOnlySynced) old new)

-- What is due to a script, by what the owners' disks hold: the line of the journal that is refused; or where all are opened, the
-- replies, or that the script has too many bytes.
abbrev pub IsScriptDue : Loading → (key : List ℕ) → (workers : ℕ) → (old new : Shelf) → (script : List ℕ) → (status : Status) → (text : List ℕ) → Type 0
IsScriptDue loading key workers old new script status text =
    IsRefusalDue loading key old new status text
    ⊎ ((versions : List ℕ) × (found : Journals) × AreOpened loading key old new versions found
    × IsAnswerDue (in_versions loading versions) key workers old new found script status text)

abbrev pub run_duty : Loading → (key : List ℕ) → (workers : ℕ) → Duty
run_duty loading key workers = record {
  due = IsScriptDue loading key workers;
  may_stop = EachDisk (owners_in loading) (λ _. IsOnlySynced);
  names_disk = IsDiskNamed loading key;
  statuses = λ status. (status ≡ Done) ⊎ ((status ≡ ScriptTooLong) ⊎ (status ≡ JournalRefused));
  admits = None;
}
