-- Within an append: an area more, a slot filled, and what a stop leaves.
use Rattle.std.specs.Prelude.{◌≡◌, ℕ, suc, ◌+◌, ◌*◌, ◌<◌, ◌≤◌, List, [], ◌∷◌, ◌++◌, length, take, slice_index}
use Rattle.outside_disks.specs.Disks.{Trace, after, seen_of, Only, Passes}
use Rattle.outside_disks.specs.Disks.Step.{Wrote}
use Rattle.journal_records.specs.declared.records.Record.{Record}
use Rattle.journal_records.specs.declared.records.Header.{Header}
use Rattle.budget_journal.specs.declared.form.Form.TheVariants.{Many}
use Rattle.budget_journal.specs.Areas.{form_in, area_slots, live_area}
use Rattle.budget_journal.specs.Journals.{slot_place, slots_in, Stands, IsBeforeOrAfter, IsAtRest, Mark, IsMarked}

-- ---- a slot that is filled

-- The place is that of the first closed slot.
abbrev pub IsNextPlace : ℕ → Header → List Record → Trace → Type 0
IsNextPlace place header records t =
    (place ≡ slot_place (slots_in header (seen_of t)) (length records)) × (length records < (slots_in header (seen_of t)).slots)

-- The slot there was filled, and the header is the same.
abbrev pub SlotFilled : ℕ → Record → Trace → Trace → Type 0
SlotFilled place next t u =
    (header : Header) (records : List Record) → IsAtRest header records t → IsNextPlace place header records t
    → IsAtRest header (records ++ next ∷ []) u × (take 128 (seen_of u) ≡ take 128 (seen_of t)) × Passes (IsBeforeOrAfter header records next) t u

abbrev pub SlotFillFailed : ℕ → Record → Trace → Trace → Type 0
SlotFillFailed place next t u =
    (header : Header) (records : List Record) → IsAtRest header records t → IsNextPlace place header records t
    → Passes (IsBeforeOrAfter header records next) t u

-- ---- an area that is written

-- The first bytes of a file are those of another.
pub record HasFront (size : ℕ) (old new : List ℕ) : Type 0 where
  pub long : size ≤ length new
  pub same : (i : ℕ) → i < size → slice_index new i ≡ slice_index old i

-- Behind an area of so many slots stand the first of another one: each of these slots as it was, and then zeros.
pub record HasCopy (begin slots count : ℕ) (old new : List ℕ) : Type 0 where
  pub long : begin + 64 * slots + 64 * count ≤ length new
  pub copied : (k i : ℕ) → k < slots → k < count → i < 64 → slice_index new (begin + 64 * slots + 64 * k + i) ≡ slice_index old (begin + 64 * k + i)
  pub zeros : (k i : ℕ) → slots ≤ k → k < count → i < 64 → slice_index new (begin + 64 * slots + 64 * k + i) ≡ 0

-- What goes behind an area, from the place of its slot k on: what the area's slots hold, and then zeros.
pub record IsChunk (begin slots k : ℕ) (file bytes : List ℕ) : Type 0 where
  pub copied : (i : ℕ) → i < length bytes → 64 * k + i < 64 * slots → slice_index bytes i ≡ slice_index file (begin + 64 * k + i)
  pub zeros : (i : ℕ) → i < length bytes → 64 * slots ≤ 64 * k + i → slice_index bytes i ≡ 0

-- So many bytes of it were written, from the place of slot k behind the area on.
abbrev pub ChunkCopied : (begin slots k size : ℕ) → Trace → Trace → Type 0
ChunkCopied begin slots k size t u = (bytes : List ℕ) × (length bytes ≡ size) × IsChunk begin slots k (seen_of t) bytes
    × (u ≡ after (Wrote (begin + 64 * slots + 64 * k) bytes) t)

-- Each file that a stop may have left since then has what stands up to the area's end, and what reads give has the copy.
abbrev pub AreaCopied : (begin slots count : ℕ) → Trace → Trace → Type 0
AreaCopied begin slots count t u = begin + 64 * slots ≤ length (seen_of t) → Only (seen_of t) t
    → Passes (HasFront (begin + 64 * slots) (seen_of t)) t u × HasCopy begin slots count (seen_of t) (seen_of u)

abbrev pub AreaCopyFailed : (begin slots : ℕ) → Trace → Trace → Type 0
AreaCopyFailed begin slots t u = begin + 64 * slots ≤ length (seen_of t) → Only (seen_of t) t
    → Passes (HasFront (begin + 64 * slots) (seen_of t)) t u

-- ---- an area more

-- A full live area with fewer slots than the capacity, in version 2.
pub record IsFull (capacity area : ℕ) (header : Header) (records : List Record) (t : Trace) : Type 0 where
  pub rest : IsAtRest header records t
  pub two : form_in (seen_of t) ≡ Many
  pub capacity_is : header.capacity ≡ capacity
  pub live : live_area (seen_of t) ≡ area
  pub full : length records ≡ area_slots Many capacity area
  pub more : area_slots Many capacity area < capacity

-- The next area is live, with the same records, and no stop left anything else.
abbrev pub AreaAdded : (capacity area : ℕ) → Trace → Trace → Type 0
AreaAdded capacity area t u = (header : Header) (records : List Record) → IsFull capacity area header records t
    → IsAtRest header records u × (form_in (seen_of u) ≡ Many) × (live_area (seen_of u) ≡ suc area) × Passes (Stands header records) t u

abbrev pub AreaAddFailed : (capacity area : ℕ) → Trace → Trace → Type 0
AreaAddFailed capacity area t u = (header : Header) (records : List Record) → IsFull capacity area header records t → Passes (Stands header records) t u

-- The area with this number is live and has a free slot, with the same records, and no stop left anything else.
abbrev pub RoomMade : Mark → (area : ℕ) → Trace → Trace → Type 0
RoomMade mark area t u = (header : Header) (records : List Record) → IsAtRest header records t → IsMarked mark header records t → mark.used < mark.capacity
    → IsAtRest header records u × IsMarked (record mark { area = area }) header records u × (mark.used < area_slots mark.form mark.capacity area)
    × Passes (Stands header records) t u

abbrev pub RoomNotMade : Mark → Trace → Trace → Type 0
RoomNotMade mark t u = (header : Header) (records : List Record) → IsAtRest header records t → IsMarked mark header records t → mark.used < mark.capacity
    → Passes (Stands header records) t u
