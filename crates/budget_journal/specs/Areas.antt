-- The versions of a journal, how the slots of each lie, and which area is live.
use Rattle.std.specs.Prelude.{◌≡◌, ◌≢◌, ◌⊎◌, ℕ, zero, suc, ◌+◌, ◌*◌, ◌^◌, ◌<◌, ◌≤◌, min, max, if◌then◌else◌, ◌==◌, List, [], ◌∷◌, take, drop, slice_index}
use Rattle.journal_records.specs.Encoding.{gate, newest_version}
use Rattle.budget_journal.specs.declared.form.Form.{Form}
use Rattle.budget_journal.specs.declared.form.Form.TheVariants.{One, Many}
use Rattle.budget_journal.specs.Slots.{Layout}

-- ---- versions

-- The version that byte 9 of a header names. An unknown one is judged as the newest, whose header has another byte there.
abbrev pub version_by : (byte : ℕ) → ℕ
version_by byte = if byte == 1 then 1 else if byte == 2 then 2 else newest_version

abbrev pub version_in : List ℕ → ℕ
version_in bytes = version_by (slice_index bytes 9)

-- How the slots lie in a journal of this version: in one area, or in many of which one is live.
abbrev pub form_by : (version : ℕ) → Form
form_by version = if version == 1 then One else Many

abbrev pub form_in : List ℕ → Form
form_in bytes = form_by (slice_index bytes 9)

-- ---- areas

-- How many slots an area has. One area has all records. Of many the first has 64 slots, and each next one twice as many, up to the
-- capacity.
abbrev pub area_slots : Form → (capacity area : ℕ) → ℕ
area_slots One capacity area = capacity
area_slots Many capacity area = min (64 * 2 ^ area) capacity

-- The first area begins behind the header, and each other one where the one before it ends.
abbrev pub area_begin : Form → (capacity area : ℕ) → ℕ
area_begin form capacity zero = 128
area_begin form capacity (suc area) = area_begin form capacity area + 64 * area_slots form capacity area

-- There is an area with this number: each one before it has fewer slots than the capacity.
abbrev pub IsArea : Form → (capacity area : ℕ) → Type 0
IsArea form capacity area = (earlier : ℕ) → earlier < area → area_slots form capacity earlier < capacity

-- the area behind which there is none
abbrev pub IsLastArea : Form → (capacity area : ℕ) → Type 0
IsLastArea form capacity area = IsArea form capacity area × (area_slots form capacity area ≡ capacity)

-- How long a file is to be that has so many bytes, where its live area ends there. With many areas it may go on behind that.
abbrev pub file_size : Form → (end bytes : ℕ) → ℕ
file_size One end bytes = end
file_size Many end bytes = max bytes end

-- an area's slots in a file of so many bytes
abbrev pub area_in : Form → (capacity area bytes : ℕ) → Layout
area_in form capacity area bytes = record {
  begin = area_begin form capacity area;
  slots = area_slots form capacity area;
  size = file_size form (area_begin form capacity (suc area)) bytes;
}

-- ---- gates of areas

-- the byte of the header that is the gate of an area, which area 0 doesn't have
abbrev pub area_gate : List ℕ → ℕ → ℕ
area_gate bytes area = slice_index bytes (96 + area)

-- how many open gates these bytes begin with
abbrev pub open_gates : List ℕ → ℕ
open_gates [] = 0
open_gates (byte ∷ others) = if byte == gate then suc (open_gates others) else 0

-- the greatest area whose gate is open and all before it, or area 0
abbrev pub live_area : List ℕ → ℕ
live_area bytes = open_gates (take 31 (drop 97 bytes))

-- The gates of the areas from 1 to this one are open and no others, and there is this area.
pub record HasGates (capacity area : ℕ) (bytes : List ℕ) : Type 0 where
  pub there : IsArea Many capacity area
  pub opened : (n : ℕ) → 1 ≤ n → n ≤ area → area_gate bytes n ≡ gate
  pub shut : (n : ℕ) → area < n → n ≤ 31 → area_gate bytes n ≢ gate

-- gate n is open behind one that isn't, or for no area
abbrev pub IsStray : (capacity : ℕ) → List ℕ → ℕ → Type 0
IsStray capacity bytes n = (1 ≤ n) × (n ≤ 31) × (area_gate bytes n ≡ gate)
    × (((m : ℕ) × (1 ≤ m) × (m < n) × (area_gate bytes m ≢ gate)) ⊎ (IsArea Many capacity n → ⊥))
