-- Which of the owners' journals are opened, and which one is refused.
use Rattle.std.specs.Prelude.{◌≡◌, ◌⊎◌, ℕ, ◌<◌, List, length, Option, None, Some, IfSome, ⊤}
use Rattle.outside_disks.specs.Stored.{Stored, Twins}
use Rattle.journal_records.specs.declared.records.Header.{Header}
use Rattle.journal_records.specs.declared.records.Record.{Record}
use Rattle.budget_journal.specs.Journals.{Stands}
use Rattle.budget_journal.specs.declared.opening.OpenFault.TheVariants as open_fault
use Rattle.budget_core.specs.Entries.{Entry}
use Rattle.budget_core.specs.Legal.{IsHistory}
use Rattle.budget_ledger.specs.Opened.{IsBookFault}
use Rattle.budget_ledger.specs.Both.{IsBothFault, IsReading, Make, Reading}
use Rattle.budget_ledger.specs.declared.both.BothFault.{BothFault}
use Rattle.budget_ledger.specs.declared.both.BothFault.TheVariants as both_fault
use Rattle.owner_catalog.specs.Limits.{owner_limit}
use Rattle.owner_house.specs.House.{House, house_of}
use Rattle.session_core.specs.Transcript.{Journals}
use Rattle.catalog_loading.specs.Loaded.{Loading, entry_at, entry_in, header_in, header_of, in_versions, new_entry, new_header, owner_name_at, owners_in}
use Rattle.owner_books.specs.Shelves.{IsUnwritten, NoOtherRose, Shelf, both_of, bytes_of}
use Rattle.owner_books.specs.Refusals.{disk_text}
use Rattle.owner_books.specs.declared.refusals.JournalRefusal.{JournalRefusal}
use Rattle.owner_books.specs.declared.refusals.JournalRefusal.TheVariants.{Uninitialised, Changed, Damaged, Exists, Forked}

-- Two disks make these records under this header, by what is found on each: on one whose count rose since, perhaps nothing.
pub record AreFoundOn (header : Header) (found : List Record) (before after : Twins) : Type 0 where
  pub first : Reading
  pub second : Reading
  pub on_first : IsReading header before.first after.first first
  pub on_second : IsReading header before.second after.second second
  pub made : Make first second header.version found

-- Where there are two disks, they have P, before and now.
abbrev pub OfTwo : (Twins → Twins → Type 0) → (before now : Option Twins) → Type 0
OfTwo P None now = ⊤
OfTwo P (Some before) None = ⊥
OfTwo P (Some before) (Some now) = P before now

-- A journal is opened with the records that its bytes stand for, of which each may follow those before it. Of two disks these are the
-- records that both make, by how many calls of each have failed from before to now.
pub record IsOpened (entry : Entry) (header : Header) (before now : Option Stored) (found : List Record) : Type 0 where
  pub stands : IfSome (bytes_of before) (Stands header found)
  pub history : IsHistory entry found
  pub twins : OfTwo (AreFoundOn header found) (both_of before) (both_of now)

-- Why a journal isn't opened: by its length, by its header, or by the least slot that is damaged or whose record may not follow.
abbrev pub IsOneUnopened : Entry → Header → (bytes : Option (List ℕ)) → JournalRefusal → Type 0
IsOneUnopened entry header bytes (Uninitialised n) = IfSome bytes (λ b. IsBookFault entry header b (open_fault.NotInitialised n))
IsOneUnopened entry header bytes Changed =
    IfSome bytes (λ b. (kept : List ℕ) × (found : List ℕ) × IsBookFault entry header b (open_fault.Changed kept found))
IsOneUnopened entry header bytes (Damaged slot) = IfSome bytes (λ b. IsBookFault entry header b (open_fault.Damaged slot))
IsOneUnopened entry header bytes (Exists n) = ⊥
IsOneUnopened entry header bytes (Forked slot) = ⊥

-- Why two disks aren't opened: as one, by the first that is refused so or by the records that both make; or since their records fork at
-- this slot, or since the versions of their journals don't agree on what is spent.
abbrev pub AreBothUnopened : Entry → Header → JournalRefusal → Twins → Twins → Type 0
AreBothUnopened entry header (Uninitialised n) before now = IsBothFault entry header before now (both_fault.Refused (open_fault.NotInitialised n))
AreBothUnopened entry header Changed before now =
    ((kept : List ℕ) × (found : List ℕ) × IsBothFault entry header before now (both_fault.Refused (open_fault.Changed kept found)))
    ⊎ IsBothFault entry header before now both_fault.VersionsDiffer
AreBothUnopened entry header (Damaged slot) before now = IsBothFault entry header before now (both_fault.Refused (open_fault.Damaged slot))
AreBothUnopened entry header (Exists n) before now = ⊥
AreBothUnopened entry header (Forked slot) before now = IsBothFault entry header before now (both_fault.Forked slot)

abbrev pub IsUnopenedBy : Entry → Header → (bytes : Option (List ℕ)) → (before now : Option Twins) → JournalRefusal → Type 0
IsUnopenedBy entry header bytes None now refusal = IsOneUnopened entry header bytes refusal
IsUnopenedBy entry header bytes (Some before) None refusal = ⊥
IsUnopenedBy entry header bytes (Some before) (Some now) refusal = AreBothUnopened entry header refusal before now

-- why the journal on an owner's one disk, or on its two, isn't opened
abbrev pub IsUnopened : Entry → Header → (before now : Option Stored) → JournalRefusal → Type 0
IsUnopened entry header before now refusal = IsUnopenedBy entry header (bytes_of before) (both_of before) (both_of now) refusal

-- Why the book isn't opened on one disk, or on two, that showed this before and now.
abbrev pub IsOneFault : Entry → Header → (bytes : Option (List ℕ)) → BothFault → Type 0
IsOneFault entry header bytes (both_fault.Refused fault) = IfSome bytes (λ b. IsBookFault entry header b fault)
IsOneFault entry header bytes fault = ⊥

abbrev pub IsFaultBy : Entry → Header → (bytes : Option (List ℕ)) → (before now : Option Twins) → BothFault → Type 0
IsFaultBy entry header bytes None now fault = IsOneFault entry header bytes fault
IsFaultBy entry header bytes (Some before) None fault = ⊥
IsFaultBy entry header bytes (Some before) (Some now) fault = IsBothFault entry header before now fault

abbrev pub IsFaultOf : Entry → Header → (before now : Stored) → BothFault → Type 0
IsFaultOf entry header before now fault = IsFaultBy entry header (bytes_of (Some before)) before.twins now.twins fault

-- the house with journals of these versions
abbrev pub house_in : Loading → (versions : List ℕ) → House
house_in loading versions = house_of (in_versions loading versions).register

-- The journals of all owners are opened, each in its version, with these records.
pub record AreOpened (loading : Loading) (key : List ℕ) (old new : Shelf) (versions : List ℕ) (found : Journals) : Type 0 where
  pub counted : length versions ≡ owner_limit
  pub each : (o : ℕ) → o < owners_in loading
      → IsOpened (entry_at (in_versions loading versions) o) (header_of (in_versions loading versions) key o) (old o) (new o) (found o)

-- The journals of the owners before this one are opened, each in its version.
abbrev pub AreOpenedBefore : Loading → (key : List ℕ) → (old new : Shelf) → (o : ℕ) → Type 0
AreOpenedBefore loading key old new o = (p : ℕ) → p < o
    → (version : ℕ) × (found : List Record) × IsOpened (entry_in loading p version) (header_in loading key p version) (old p) (new p) found

-- A disk, or two, were at home, and are so again, with nothing written.
abbrev pub IsUnwrittenAt : (old new : Option Stored) → Type 0
IsUnwrittenAt old new = (before : Stored) → old ≡ Some before → (after : Stored) × (new ≡ Some after) × IsUnwritten before after

-- An owner's journal is refused, and nothing is written to its disks; those of the owners before it are opened.
pub record IsRefusedAt (loading : Loading) (key : List ℕ) (old new : Shelf) (o : ℕ) (refusal : JournalRefusal) : Type 0 where
  pub known : o < owners_in loading
  pub before : AreOpenedBefore loading key old new o
  pub refused : IsUnopened (new_entry loading o) (new_header loading key o) (old o) (new o) refusal
  pub unwritten : IsUnwrittenAt (old o) (new o)

-- The line names the owner whose disk failed as its journal was to be opened: those of the owners before it are opened, and no
-- other owner's disk has a count that rose.
abbrev pub IsDiskNamed : Loading → (key : List ℕ) → (old new : Shelf) → (text : List ℕ) → Type 0
IsDiskNamed loading key old new text =
    (o : ℕ) × (o < owners_in loading) × (text ≡ disk_text (owner_name_at loading o)) × AreOpenedBefore loading key old new o × NoOtherRose o old new
