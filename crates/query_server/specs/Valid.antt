-- What some work takes where nothing is in the way, and how it ends then.
use Rattle.std.specs.Prelude.{◌≡◌, ◌⊎◌, ℕ, ◌<◌, List, [], Option, Some, None, ⊤}
use mathlib.Core.List.{IsPrefix}
use Rattle.outside_disks.specs.Disks.{seen_of}
use Rattle.outside_disks.specs.Stored.{Twins}
use Rattle.journal_records.specs.declared.records.Header.{Header}
use Rattle.journal_records.specs.declared.records.Record.{Record}
use Rattle.budget_journal.specs.Journals.{Stands, TellsSome}
use Rattle.budget_core.specs.Entries.{Entry}
use Rattle.budget_core.specs.Legal.{IsHistory}
use Rattle.budget_ledger.specs.Both.{AgreeOnCost, Tells}
use Rattle.catalog_loading.specs.Loaded.{KeyedOwner, Loading, its_entry, its_header, new_entry, new_header, owners_in}
use Rattle.query_server.specs.Derivation.{task_statuses}
use Rattle.query_server.specs.Work.{Work, usage, refused, to_answer, to_make, to_count, to_grant, to_check, to_compare, to_serve, to_generate, of_derivation}
use Rattle.owner_books.specs.Shelves.{Shelf, both_on, bytes_on}
use Rattle.query_server.specs.declared.end.Status.{Status}
use Rattle.query_server.specs.declared.end.Status.TheVariants.{Done, ProgramRefused, NoMemory, ScriptTooLong, TooLarge, JournalFull}

-- A disk is empty, or each of two is, and they tell it.
abbrev pub IsEmpty : (bytes : Option (List ℕ)) → Option Twins → Type 0
IsEmpty bytes None = bytes ≡ Some []
IsEmpty bytes (Some twins) = TellsSome (λ t. seen_of t ≡ []) twins.first.trace × TellsSome (λ t. seen_of t ≡ []) twins.second.trace

-- The first owners' disks are empty.
abbrev pub AreEmpty : (owners : ℕ) → Shelf → Type 0
AreEmpty owners shelf = (o : ℕ) → o < owners → IsEmpty (bytes_on shelf o) (both_on shelf o)

-- Bytes are a journal of records that may follow one another, in some version of this header.
pub record HoldsRecords (entry : Entry) (header : Header) (bytes : List ℕ) : Type 0 where
  pub version : ℕ
  pub found : List Record
  pub stands : Stands (record header { version = version }) found bytes
  pub history : IsHistory (record entry { version = version }) found

-- Two disks tell journals in such versions, of which one begins the other, and the records of that one may follow one another.
pub record HoldTheSame (entry : Entry) (header : Header) (twins : Twins) : Type 0 where
  pub version : ℕ
  pub other : ℕ
  pub records : List Record
  pub others : List Record
  pub first : Tells header version records twins.first
  pub second : Tells header other others twins.second
  pub agree : AgreeOnCost version other
  pub longer : (IsPrefix others records × IsHistory (record entry { version = version }) records)
      ⊎ (IsPrefix records others × IsHistory (record entry { version = other }) others)

-- one disk tells such a journal, or two do
abbrev pub TellsRecords : Entry → Header → (bytes : Option (List ℕ)) → Option Twins → Type 0
TellsRecords entry header None None = ⊥
TellsRecords entry header (Some bytes) None = HoldsRecords entry header bytes
TellsRecords entry header bytes (Some twins) = HoldTheSame entry header twins

-- The owners' disks tell journals of records that may follow one another, under the headers of this house and this key.
abbrev pub HoldJournals : Loading → (key : List ℕ) → Shelf → Type 0
HoldJournals loading key shelf = (o : ℕ) → o < owners_in loading
    → TellsRecords (new_entry loading o) (new_header loading key o) (bytes_on shelf o) (both_on shelf o)

-- One owner's disk tells a journal of records that may follow one another, under the owner's header.
abbrev pub HoldsJournal : KeyedOwner → Shelf → Type 0
HoldsJournal one shelf = TellsRecords (its_entry one) (its_header one) (bytes_on shelf one.number) (both_on shelf one.number)

-- All that is taken is valid. The words are a command and no name is refused, or else there would be no such work: each file that
-- is named is there, not too long and within its definition, and so is each that a catalog names; an owner that is named is known,
-- and its entries in the two catalogs of a `gap` fit. And the owners' disks hold what the work asks of them.
abbrev pub IsValidFor : Work → Shelf → Type 0
IsValidFor usage shelf = ⊥
IsValidFor (refused name) shelf = ⊥
IsValidFor (to_make loading key) shelf = AreEmpty (owners_in loading) shelf
IsValidFor (to_answer workers loading key) shelf = HoldJournals loading key shelf
IsValidFor (to_count loading key) shelf = HoldJournals loading key shelf
IsValidFor (to_grant amount one) shelf = HoldsJournal one shelf
IsValidFor (to_check tables program) shelf = ⊤
IsValidFor (to_compare tables X Y program) shelf = ⊤
IsValidFor (to_serve workers each loading key) shelf = HoldJournals loading key shelf
IsValidFor (to_generate seed asks) shelf = ⊤
IsValidFor (of_derivation task) shelf = ⊤

-- The statuses of some work then, where nothing fails and memory suffices: a script may be too long, a grant too large or the journal full for it,
-- a program or a derivation refused, and a derivation too long.
abbrev pub EndsWell : Work → Status → Type 0
EndsWell usage status = ⊥
EndsWell (refused name) status = ⊥
EndsWell (to_make loading key) status = status ≡ Done
EndsWell (to_answer workers loading key) status = (status ≡ Done) ⊎ (status ≡ ScriptTooLong)
EndsWell (to_count loading key) status = status ≡ Done
EndsWell (to_grant amount one) status = (status ≡ Done) ⊎ ((status ≡ TooLarge) ⊎ (status ≡ JournalFull))
EndsWell (to_check tables program) status = (status ≡ Done) ⊎ (status ≡ ProgramRefused)
EndsWell (to_compare tables X Y program) status = (status ≡ Done) ⊎ (status ≡ ProgramRefused)
EndsWell (to_serve workers each loading key) status = status ≡ Done
EndsWell (to_generate seed asks) status = status ≡ Done
EndsWell (of_derivation task) status = task_statuses task status

-- Memory may run out at any time.
abbrev pub MayEndWell : Work → Status → Type 0
MayEndWell work status = EndsWell work status ⊎ (status ≡ NoMemory)
