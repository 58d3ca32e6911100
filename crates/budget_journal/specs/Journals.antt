-- What the bytes of a journal stand for.
use Rattle.std.specs.Prelude.{◌≡◌, ◌≢◌, ◌⊎◌, ℕ, ◌<◌, ◌≤◌, List, [], ◌∷◌, ◌++◌, length, take, slice_index, Option, None, Some, Bool, ⊤}
use Rattle.outside_disks.specs.Disks.{Trace, after, noted, seen_of, Only, Passes}
use Rattle.outside_disks.specs.Disks.Step.{Synced}
use Rattle.journal_records.specs.Encoding.{gate, encoded_header}
use Rattle.journal_records.specs.declared.records.Record.{Record}
use Rattle.journal_records.specs.declared.records.Header.{Header}
use Rattle.budget_journal.specs.declared.area.Area.{Area}
use Rattle.budget_journal.specs.declared.journal.Journal.{Journal}
use Rattle.budget_journal.specs.declared.opening.OpenFault.{OpenFault}
use Rattle.budget_journal.specs.declared.opening.OpenFault.TheVariants.{NotInitialised, Changed, Damaged}
use Rattle.budget_journal.specs.declared.form.Form.{Form}
use Rattle.budget_journal.specs.declared.form.Form.TheVariants.{One, Many}
use Rattle.budget_journal.specs.Areas.{version_by, version_in, form_in, area_in, area_slots, live_area, HasGates, IsStray}
pub use Rattle.budget_journal.specs.Slots.{Layout, slot_place, slot, gate_of, Holds, FillsSlots, IsTornOff, IsBeyond}
pub use Rattle.budget_journal.specs.Slots.{IsUnreadable, IsBehindClosed, IsDamaged, IsFirstDamaged}

-- ---- the header

-- The bytes begin with the header of a journal with many areas, but for bytes 97 to 127, in which the gates of areas are in order.
pub record HasGrownHeader (header : Header) (bytes : List ℕ) : Type 0 where
  pub fields : take 97 bytes ≡ take 97 (encoded_header header)
  pub known : version_by header.version ≡ header.version
  pub gates : HasGates header.capacity (live_area bytes) bytes

abbrev pub HasHeaderOf : Form → Header → List ℕ → Type 0
HasHeaderOf One header bytes = take 128 bytes ≡ encoded_header header
HasHeaderOf Many header bytes = HasGrownHeader header bytes

-- the header that is looked for in these bytes: in the version that they name
abbrev pub as_found : Header → List ℕ → Header
as_found header bytes = record header { version = version_in bytes }

-- The bytes begin with this header, by the rules of the version that is found there.
abbrev pub HasHeader : Header → List ℕ → Type 0
HasHeader header bytes = HasHeaderOf (form_in bytes) header bytes

-- The slots that the header found on the disk gives: those of the live area. Version 1 has zeros there, and area 0 alone.
abbrev pub slots_in : Header → List ℕ → Layout
slots_in header bytes = area_in (form_in bytes) header.capacity (live_area bytes) (length bytes)

-- ---- what bytes stand for

-- The bytes are a journal with this header and these records, which fill the slots that the header gives.
pub record Stands (header : Header) (records : List Record) (bytes : List ℕ) : Type 0 where
  pub head : HasHeader header bytes
  pub fills : FillsSlots (slots_in header bytes) bytes records

abbrev pub StandsForOne : Type 0
StandsForOne = (header : Header) (records others : List Record) (bytes : List ℕ) → Stands header records bytes → Stands header others bytes → records ≡ others

-- the records from before, with one more or without it
abbrev pub IsBeforeOrAfter : Header → List Record → Record → List ℕ → Type 0
IsBeforeOrAfter header records next bytes = Stands header records bytes ⊎ Stands header (records ++ next ∷ []) bytes

-- What reads give stands for these records, and a stop leaves nothing else.
pub record IsAtRest (header : Header) (records : List Record) (t : Trace) : Type 0 where
  pub stands : Stands header records (seen_of t)
  pub stable : Only (seen_of t) t

-- ---- a journal in the program

-- Where a journal is: how its slots lie, how much it may hold, its live area, and how many records it has.
pub record Mark : Type 0 where
  pub form : Form
  pub capacity : ℕ
  pub area : ℕ
  pub used : ℕ

abbrev pub mark_at : Area → ℕ → Mark
mark_at area used = record { form = area.form; capacity = area.capacity; area = area.number; used = used }

module _ {D : Type 0} where
  abbrev pub disk_of : Journal D → D
  disk_of journal = journal.disk

  -- how many slots are open in the live area
  abbrev pub used : Journal D → ℕ
  used journal = journal.used

  -- whether an append has failed
  abbrev pub is_closed : Journal D → Bool
  is_closed journal = journal.closed

  -- how many records it may hold
  abbrev pub capacity_of : Journal D → ℕ
  capacity_of journal = journal.area.capacity

  -- the version of its header
  abbrev pub version_of : Journal D → ℕ
  version_of journal = journal.version

  abbrev pub mark_of : Journal D → Mark
  mark_of journal = mark_at journal.area journal.used

-- a disk with these records is there
pub record IsMarked (mark : Mark) (header : Header) (records : List Record) (t : Trace) : Type 0 where
  pub form : form_in (seen_of t) ≡ mark.form
  pub capacity : header.capacity ≡ mark.capacity
  pub area : live_area (seen_of t) ≡ mark.area
  pub used : length records ≡ mark.used

-- A journal that was at rest: with the record after an append that answered Ok, and at each moment before and since with it
-- or without, while an area was written too.
abbrev pub Appended : Mark → Record → Mark → Trace → Trace → Type 0
Appended mark next now t u =
    (header : Header) (records : List Record) → IsAtRest header records t → IsMarked mark header records t → mark.used < mark.capacity
    → IsAtRest header (records ++ next ∷ []) u × IsMarked now header (records ++ next ∷ []) u × Passes (IsBeforeOrAfter header records next) t u

-- The same of an append that failed: all that was or may be left has the records from before, with the next one or without.
abbrev pub AppendFailed : Mark → Record → Trace → Trace → Type 0
AppendFailed mark next t u =
    (header : Header) (records : List Record) → IsAtRest header records t → IsMarked mark header records t → mark.used < mark.capacity
    → Passes (IsBeforeOrAfter header records next) t u

-- A next area is opened only where the live one is full.
abbrev pub GrowsWhereFull : Mark → Mark → Type 0
GrowsWhereFull mark now = mark.used < area_slots mark.form mark.capacity mark.area → now.area ≡ mark.area

-- ---- opening

-- How the header that was found is another one: in version 1 by any byte. In versions 2 and 3 bytes 97 to 127 don't count, but for a
-- gate that is open behind one that isn't or for no area.
abbrev pub Differ : Form → (capacity : ℕ) → (kept found : List ℕ) → Type 0
Differ One capacity kept found = kept ≢ found
Differ Many capacity kept found = (take 97 kept ≢ take 97 found) ⊎ ((n : ℕ) × IsStray capacity kept n)

-- why a header wasn't the wanted one
abbrev pub IsHeaderFault : Header → List ℕ → OpenFault → Type 0
IsHeaderFault header bytes (NotInitialised n) = (n ≡ length bytes) × ((length bytes < 128) ⊎ (slice_index bytes 0 ≢ gate))
IsHeaderFault header bytes (Changed kept found) = (128 ≤ length bytes) × (slice_index bytes 0 ≡ gate) × (kept ≡ take 128 bytes) ×
    (found ≡ encoded_header (as_found header bytes)) × Differ (form_in bytes) header.capacity kept found
IsHeaderFault header bytes (Damaged k) = ⊥
IsHeaderFault header bytes _ = ⊤

-- Why these bytes weren't opened: the header first, and then the least damaged slot.
abbrev pub IsOpenFault : Header → List ℕ → OpenFault → Type 0
IsOpenFault header bytes (NotInitialised n) = IsHeaderFault header bytes (NotInitialised n)
IsOpenFault header bytes (Changed kept found) = IsHeaderFault header bytes (Changed kept found)
IsOpenFault header bytes (Damaged k) = (128 ≤ length bytes) × HasHeader (as_found header bytes) bytes × IsFirstDamaged (slots_in header bytes) bytes k
IsOpenFault header bytes _ = ⊤

-- opened: the disk was synced, and is at rest with these records
abbrev pub Found : Header → List Record → Trace → Trace → Type 0
Found header records t u = (u ≡ after Synced t) × IsAtRest header records u

-- the disk was synced, or that failed
abbrev pub MayHaveSynced : Option Trace → Option Trace → Type 0
MayHaveSynced old new = (new ≡ old) ⊎ (new ≡ noted Synced old)

-- ---- making

-- it is told, and has P
abbrev pub TellsSome : (Trace → Type 0) → Option Trace → Type 0
TellsSome P None = ⊥
TellsSome P (Some t) = P t
