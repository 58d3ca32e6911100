-- Slots of 64 bytes, and the records in them.
use Rattle.std.specs.Prelude.{◌≡◌, ◌≢◌, ◌⊎◌, ℕ, ◌+◌, ◌*◌, ◌<◌, ◌≤◌, List, length, take, drop, slice_index, slice_get, Some}
use Rattle.journal_records.specs.Encoding.{gate, encoded, IsValid}
use Rattle.journal_records.specs.declared.records.Record.{Record}

-- Slots one behind the other: where they begin, how many there are, and how long the file is.
pub record Layout : Type 0 where
  pub begin : ℕ
  pub slots : ℕ
  pub size : ℕ

-- where slot k is
abbrev pub slot_place : Layout → ℕ → ℕ
slot_place layout k = layout.begin + 64 * k

abbrev pub slot : Layout → List ℕ → ℕ → List ℕ
slot layout bytes k = take 64 (drop (slot_place layout k) bytes)

abbrev pub gate_of : Layout → List ℕ → ℕ → ℕ
gate_of layout bytes k = slice_index bytes (slot_place layout k)

-- a slot holds this record
pub record Holds (slot_bytes : List ℕ) (r : Record) : Type 0 where
  pub valid : IsValid r
  pub bytes : slot_bytes ≡ encoded r

-- The file is as long as the layout says. Each slot in turn holds a record, and behind them no slot is open.
pub record FillsSlots (layout : Layout) (bytes : List ℕ) (records : List Record) : Type 0 where
  pub whole : length bytes ≡ layout.size
  pub room : length records ≤ layout.slots
  pub kept : (k : ℕ) (r : Record) → slice_get records k ≡ Some r → Holds (slot layout bytes k) r
  pub shut : (k : ℕ) → length records ≤ k → k < layout.slots → gate_of layout bytes k ≢ gate

-- ---- what is damaged

-- slot k isn't wholly there
abbrev pub IsTornOff : Layout → List ℕ → ℕ → Type 0
IsTornOff layout bytes k = (k < layout.slots) × (length bytes < slot_place layout k + 64)

-- slot k is past the last one, in a file that is too long
abbrev pub IsBeyond : Layout → List ℕ → ℕ → Type 0
IsBeyond layout bytes k = (layout.slots ≤ k) × (layout.size < length bytes)

abbrev pub IsUnreadable : Layout → List ℕ → ℕ → Type 0
IsUnreadable layout bytes k = (k < layout.slots) × (gate_of layout bytes k ≡ gate) × ((r : Record) → Holds (slot layout bytes k) r → ⊥)

abbrev pub IsBehindClosed : Layout → List ℕ → ℕ → Type 0
IsBehindClosed layout bytes k = (k < layout.slots) × (gate_of layout bytes k ≡ gate) × ((j : ℕ) × (j < k) × (gate_of layout bytes j ≢ gate))

-- Slot k isn't wholly there, or is past the last one, or is open and no record, or is open behind a closed one.
abbrev pub IsDamaged : Layout → List ℕ → ℕ → Type 0
IsDamaged layout bytes k = IsTornOff layout bytes k ⊎ (IsBeyond layout bytes k ⊎ (IsUnreadable layout bytes k ⊎ IsBehindClosed layout bytes k))

-- the least slot that is damaged
pub record IsFirstDamaged (layout : Layout) (bytes : List ℕ) (k : ℕ) : Type 0 where
  pub damaged : IsDamaged layout bytes k
  pub first : (j : ℕ) → j < k → IsDamaged layout bytes j → ⊥
