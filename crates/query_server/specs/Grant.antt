-- `grant`: the budget of one owner is raised.
use Rattle.std.specs.Prelude.{◌≡◌, ◌⊎◌, true, false, ℕ, List, length, Result, Ok, Err, IsOk, Some, None, ◌++◌, codes, decimal}
use Rattle.outside_disks.specs.Stored.{Stored}
use Rattle.journal_records.specs.declared.records.Header.{Header}
use Rattle.journal_records.specs.declared.records.Record.{Record}
use Rattle.journal_records.specs.declared.records.Record.TheVariants.{Grant}
use Rattle.budget_core.specs.declared.answers.Left.{Left}
use Rattle.budget_core.specs.declared.answers.GrantRefusal.{GrantRefusal}
use Rattle.budget_core.specs.declared.answers.GrantRefusal.TheVariants.{TooLarge, Full}
use Rattle.budget_core.specs.Counts.{reservations_of}
use Rattle.budget_core.specs.Entries.{Entry}
use Rattle.budget_core.specs.Granting.{grant_behind, grant_verdict, with_grant}
use Rattle.budget_ledger.specs.declared.failure.Failure.{Failure}
use Rattle.catalog_loading.specs.Steps.{FileStep}
use Rattle.catalog_loading.specs.Loaded.{KeyedOwner, its_entry, its_header, its_name, with_owner}
use Rattle.query_server.specs.Work.{Work, to_grant}
use Rattle.query_server.specs.Duty.{Duty, Kind}
use Rattle.owner_books.specs.Shelves.{Shelf, NoOtherRose, OneDisk, IsOnlySynced}
use Rattle.owner_books.specs.Opened.{IsOpened, IsUnopened}
use Rattle.query_server.specs.Run.{WentOn}
use Rattle.owner_books.specs.Refusals.{disk_text, journal_text}
use Rattle.owner_books.specs.declared.refusals.JournalRefusal.{JournalRefusal}
use Rattle.query_server.specs.declared.end.Status.{Status}
use Rattle.query_server.specs.declared.end.Status.TheVariants as code

-- CATALOG, that has OWNER, then KEY, then the tables of OWNER
abbrev pub grant_steps : (catalog key owner : List ℕ) → (amount : ℕ) → FileStep Work
grant_steps catalog key owner amount = with_owner (to_grant amount) catalog key owner

abbrev pub grant_kind : (catalog key owner : List ℕ) → (amount : ℕ) → Kind
grant_kind catalog key owner amount =
    record { steps = grant_steps catalog key owner amount; source = false; disks = true; doors = false; program = false }

-- what is kept of the owner's budget, and the header of its journal, in this version
abbrev pub entry_in : KeyedOwner → (version : ℕ) → Entry
entry_in one version = record (its_entry one) { version = version }

abbrev pub header_in : KeyedOwner → (version : ℕ) → Header
header_in one version = record (its_header one) { version = version }

-- the verdict on a grant of this amount behind these records, where they were found
abbrev pub verdict_on : KeyedOwner → (version : ℕ) → (found : List Record) → (amount : ℕ) → Result Left GrantRefusal
verdict_on one version found amount = grant_verdict (entry_in one version) (length (reservations_of found)) found amount

-- the status and the line of a verdict
abbrev pub verdict_status : Result Left GrantRefusal → Status
verdict_status (Ok left) = code.Done
verdict_status (Err (TooLarge budget amount)) = code.TooLarge
verdict_status (Err (Full used unsettled capacity)) = code.JournalFull

abbrev pub granted_text : (owner : List ℕ) → (budget seen : ℕ) → List ℕ
granted_text owner budget seen = codes "granted " ++ owner ++ codes " " ++ decimal budget ++ codes " " ++ decimal seen ++ codes "\n"

abbrev pub verdict_text : (owner : List ℕ) → Result Left GrantRefusal → List ℕ
verdict_text owner (Ok left) = granted_text owner left.budget left.seen
verdict_text owner (Err (TooLarge budget amount)) = codes "too large " ++ decimal budget ++ codes "\n"
verdict_text owner (Err (Full used unsettled capacity)) = codes "full " ++ decimal used ++ codes " " ++ decimal capacity ++ codes "\n"

-- The owner's disk by the verdict: the grant stands behind what was found, or nothing was written.
abbrev pub WentBy : Entry → Header → (found : List Record) → (amount : ℕ) → Result Left GrantRefusal → (before after : Stored) → Type 0
WentBy entry header found amount (Ok left) before after = WentOn entry header found (with_grant found amount) None before after
WentBy entry header found amount (Err refusal) before after = IsOnlySynced before after

-- The owner's journal is opened in its version, with these records, and the grant is answered by the verdict on them.
pub record IsGrantAnswered (one : KeyedOwner) (amount : ℕ) (old new : Shelf) (status : Status) (text : List ℕ) : Type 0 where
  pub version : ℕ
  pub found : List Record
  pub opened : IsOpened (entry_in one version) (header_in one version) (old one.number) (new one.number) found
  pub is_status : status ≡ verdict_status (verdict_on one version found amount)
  pub is_text : text ≡ verdict_text (its_name one) (verdict_on one version found amount)
  pub disk : OneDisk one.number (WentBy (entry_in one version) (header_in one version) found amount (verdict_on one version found amount)) old new

-- The owner's journal is refused. Nothing is written.
pub record IsGrantUnopened (one : KeyedOwner) (old new : Shelf) (status : Status) (text : List ℕ) : Type 0 where
  pub refusal : JournalRefusal
  pub refused : IsUnopened (its_entry one) (its_header one) (old one.number) (new one.number) refusal
  pub is_status : status ≡ code.JournalRefused
  pub is_text : text ≡ journal_text (its_name one) refusal
  pub disk : OneDisk one.number IsOnlySynced old new

-- What is due to `grant`, by what the owner's disk holds.
abbrev pub IsGrantDue : KeyedOwner → (amount : ℕ) → (old new : Shelf) → (status : Status) → (text : List ℕ) → Type 0
IsGrantDue one amount old new status text = IsGrantUnopened one old new status text ⊎ IsGrantAnswered one amount old new status text

-- The append of the grant failed: the record may be there or not.
pub record IsGrantUnwritten (one : KeyedOwner) (amount : ℕ) (old new : Shelf) : Type 0 where
  pub version : ℕ
  pub found : List Record
  pub failure : Failure
  pub opened : IsOpened (entry_in one version) (header_in one version) (old one.number) (new one.number) found
  pub allowed : IsOk (verdict_on one version found amount)
  pub pending : failure.pending ≡ Grant (grant_behind found amount)
  pub disk : OneDisk one.number (WentOn (entry_in one version) (header_in one version) found found (Some failure)) old new

-- What a grant may leave that was ended by a failure or for want of memory: nothing was written, or its append failed.
abbrev pub MayStopGrant : KeyedOwner → (amount : ℕ) → (old new : Shelf) → Type 0
MayStopGrant one amount old new = OneDisk one.number IsOnlySynced old new ⊎ IsGrantUnwritten one amount old new

abbrev pub grant_duty : KeyedOwner → (amount : ℕ) → Duty
grant_duty one amount = record {
  due = λ old new script. IsGrantDue one amount old new;
  may_stop = MayStopGrant one amount;
  names_disk = λ old new text. (text ≡ disk_text (its_name one)) × NoOtherRose one.number old new;
  statuses = λ status. (status ≡ code.Done) ⊎ ((status ≡ code.TooLarge) ⊎ ((status ≡ code.JournalFull) ⊎ (status ≡ code.JournalRefused)));
  admits = None;
}
