-- One sound disk of two is enough.
use Rattle.std.specs.Prelude.{◌≡◌, ℕ, ◌<◌, true, List, slice_get, Option, Some, IfSome}
use mathlib.Core.List.{IsPrefix}
use Rattle.outside_disks.specs.Disks.{Passes, Shown, WhereTold, noted}
use Rattle.outside_disks.specs.Disks.Step.{Synced}
use Rattle.outside_disks.specs.Stored.{Stored, Twins}
use Rattle.journal_records.specs.declared.records.Header.{Header}
use Rattle.journal_records.specs.declared.records.Record.{Record}
use Rattle.budget_journal.specs.Journals.{IsAtRest, Stands}
use Rattle.budget_ledger.specs.Both.{IsLeft, Reading, StoodStill}
use Rattle.budget_ledger.specs.Both.Reading.{Missing, Holding, Unfit}
use Rattle.budget_ledger.specs.declared.failure.Failure.{Failure}
use Rattle.wire_lines.specs.Reply.{refused as refused_reply}
use Rattle.wire_lines.specs.Refusal.{by_disk}
use Rattle.wire_lines.specs.declared.refusal.DiskRefusal.{DiskRefusal}
use Rattle.owner_house.specs.House.{House, house_of}
use Rattle.owner_house.specs.Owner.{Owner}
use Rattle.generated_run.specs.AnswerPath.Demand.{asks}
use Rattle.generated_run.specs.AnswerPath.Query.{Query}
use Rattle.generated_run.specs.SessionCore.Exchanges.{Exchange}
use Rattle.generated_run.specs.SessionCore.Meant.{wants}
use Rattle.generated_run.specs.SessionCore.Transcript.{Journals}
use Rattle.generated_run.specs.SessionCore.Turns.{meant_at}
use Rattle.catalog_loading.specs.Loaded.{IsLoading, Loading, header_of, owners_in}
use Rattle.owner_books.specs.Shelves.{Shelf}
use Rattle.query_server.specs.Mirrors.{BothWentOn}
use Rattle.query_server.specs.Run.{IsScriptAnswered}
use Rattle.query_server.specs.Serve.{WereHeld}

-- No ask of this owner is refused for its disks: none is told 42 or 52.
abbrev pub NoneIsRefused : House → (o : ℕ) → List Exchange → Type 0
NoneIsRefused house o xs = (k : ℕ) (x : Exchange) (owner : Owner) (query : Query) (refusal : DiskRefusal) → slice_get xs k ≡ Some x
    → meant_at house x.turn ≡ wants o owner (asks query) → x.reply ≡ refused_reply (by_disk refusal) → ⊥

-- The file stands for some first ones of the records, with those that the disk had.
abbrev pub StandsForFirst : Header → (had records : List Record) → (bytes : List ℕ) → Type 0
StandsForFirst header had records bytes = (g : List Record) × IsPrefix had g × IsPrefix g records × Stands header g bytes

-- So does each file that a stop may have left of a disk since its journal was opened, which synced it. A disk that was gone was only synced.
abbrev pub LeavesFirst : Header → (records : List Record) → (before after : Shown) → Reading → Type 0
LeavesFirst header records before after (Holding version had) =
    WhereTold (Passes (StandsForFirst (record header { version = version }) had records)) (noted Synced before.trace) after.trace
LeavesFirst header records before after (Missing empty) = IsLeft before after
LeavesFirst header records before after (Unfit fault) = ⊥

-- And now a stop leaves all records, and nothing else.
abbrev pub LeavesAll : Header → (records : List Record) → (after : Shown) → Reading → Type 0
LeavesAll header records after (Holding version had) = IfSome after.trace (IsAtRest (record header { version = version }) records)
LeavesAll header records after reading = ⊥

-- One of two disks wasn't empty as its journal was opened, and its count of faults stands still since before that, below its last value.
abbrev pub IsSound : (before after : Shown) → Reading → Type 0
IsSound before after reading = StoodStill before after × (reading ≡ Missing true → ⊥)

-- Then no ask is refused for the disks, and it has all records; and the other has first ones of the same.
abbrev pub IsEnough : House → (o : ℕ) → List Exchange → Header → (records : List Record) → (before after other_before other_after : Shown)
    → (reading other : Reading) → Type 0
IsEnough house o xs header records before after other_before other_after reading other = IsSound before after reading
    → NoneIsRefused house o xs × LeavesFirst header records before after reading × LeavesAll header records after reading
    × LeavesFirst header records other_before other_after other

-- It is so of each of the two.
pub record EachIsEnough (house : House) (o : ℕ) (xs : List Exchange) (header : Header) (found records : List Record) (closed : Option Failure)
    (before after : Twins) : Type 0 where
  pub went : BothWentOn header found records closed before after
  pub first : IsEnough house o xs header records before.first after.first before.second after.second went.first went.second
  pub second : IsEnough house o xs header records before.second after.second before.first after.first went.second went.first

-- Where a script was answered, of each owner that has two disks,
abbrev pub ASoundDiskIsEnough : Type 0
ASoundDiskIsEnough = (loading : Loading) (key : List ℕ) (workers : ℕ) (old new : Shelf) (found : Journals) (script text : List ℕ)
    → (answered : IsScriptAnswered loading key workers old new found script text) → IsLoading loading → (o : ℕ) → o < owners_in loading
    → (before : Stored) (twins : Twins) → old o ≡ Some before → before.twins ≡ Some twins
    → (after : Stored) × (now : Twins) × (new o ≡ Some after) × (after.twins ≡ Some now)
    × EachIsEnough (house_of loading.register) o answered.exchanges (header_of loading key o) (found o) (answered.records o) (answered.closed o) twins now

-- and where sessions were held.
abbrev pub ASoundDiskIsEnoughToServe : Type 0
ASoundDiskIsEnoughToServe = (loading : Loading) (key : List ℕ) (workers : ℕ) (old new : Shelf) (found : Journals)
    → (were : WereHeld loading key workers old new found) → IsLoading loading → (o : ℕ) → o < owners_in loading
    → (before : Stored) (twins : Twins) → old o ≡ Some before → before.twins ≡ Some twins
    → (after : Stored) × (now : Twins) × (new o ≡ Some after) × (after.twins ≡ Some now)
    × EachIsEnough (house_of loading.register) o were.held.exchanges (header_of loading key o) (found o) (were.over.records o) (were.over.closed o) twins now
