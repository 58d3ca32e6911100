-- What the parts of an opening read.
use Rattle.std.specs.Prelude.{◌≡◌, ◌≢◌, ◌⊎◌, ℕ, ◌+◌, ◌<◌, ◌≤◌, Bool, true, false, List, [], ◌∷◌, ◌++◌, length, take, slice_get, Some, Result, Ok, Err, Vec, ⊤}
use Rattle.std.specs.declared.alloc.Global.{Global}
use Rattle.journal_records.specs.Encoding.{gate}
use Rattle.journal_records.specs.declared.records.Record.{Record}
use Rattle.journal_records.specs.declared.records.Header.{Header}
use Rattle.budget_journal.specs.declared.area.Area.{Area}
use Rattle.budget_journal.specs.declared.opening.OpenFault.{OpenFault}
use Rattle.budget_journal.specs.declared.opening.OpenFault.TheVariants.{NotInitialised, Changed, Damaged}
use Rattle.budget_journal.specs.declared.form.Form.{Form}
use Rattle.budget_journal.specs.declared.form.Form.TheVariants.{One, Many}
use Rattle.budget_journal.specs.Areas.{version_in, form_in, live_area, HasGates}
use Rattle.budget_journal.specs.Journals.{Layout, slot_place, slot, gate_of, Holds, FillsSlots, IsFirstDamaged}
use Rattle.budget_journal.specs.Journals.{as_found, HasHeader, Stands, IsHeaderFault, IsOpenFault}

-- ---- the header

-- The header that was found is this one, with this live area.
abbrev pub AreAlike : Form → (capacity area : ℕ) → (kept found : List ℕ) → Type 0
AreAlike One capacity area kept found = (kept ≡ found) × (area ≡ 0)
AreAlike Many capacity area kept found = (take 97 kept ≡ take 97 found) × HasGates capacity area kept

-- the header was judged: the length, the live area, and the version
abbrev pub HeaderRead : Header → List ℕ → Result (ℕ × Area × ℕ) OpenFault → Type 0
HeaderRead header bytes (Ok read) = (read.0 ≡ length bytes) × (128 ≤ length bytes) × HasHeader (as_found header bytes) bytes
    × (read.1.form ≡ form_in bytes) × (read.1.capacity ≡ header.capacity) × (read.1.number ≡ live_area bytes) × (read.2 ≡ version_in bytes)
HeaderRead header bytes (Err fault) = IsHeaderFault header bytes fault

-- ---- the slots

-- why these slots weren't read
abbrev pub IsSlotFault : Layout → List ℕ → OpenFault → Type 0
IsSlotFault layout bytes (Damaged k) = IsFirstDamaged layout bytes k
IsSlotFault layout bytes (NotInitialised n) = ⊥
IsSlotFault layout bytes (Changed kept found) = ⊥
IsSlotFault layout bytes _ = ⊤

-- why one slot isn't read, where it is wholly there
abbrev pub IsSlotRefused : Layout → List ℕ → ℕ → Bool → OpenFault → Type 0
IsSlotRefused layout bytes k closed (Damaged s) = (s ≡ k) × (gate_of layout bytes k ≡ gate)
    × ((closed ≡ true) ⊎ ((r : Record) → Holds (slot layout bytes k) r → ⊥))
IsSlotRefused layout bytes k closed (NotInitialised n) = ⊥
IsSlotRefused layout bytes k closed (Changed kept found) = ⊥
IsSlotRefused layout bytes k closed _ = ⊤

-- what the next slot, where it is wholly there, adds to these: its record where it is open, and else nothing
abbrev pub SlotAdded : Layout → List ℕ → ℕ → Bool → (old new : List Record) → Result ⊤ OpenFault → Type 0
SlotAdded layout bytes k closed old new (Ok _) = (gate_of layout bytes k ≢ gate → new ≡ old)
    × (gate_of layout bytes k ≡ gate → (closed ≡ false) × (r : Record) × Holds (slot layout bytes k) r × (new ≡ old ++ r ∷ []))
SlotAdded layout bytes k closed old new (Err fault) = IsSlotRefused layout bytes k closed fault

-- The slots below k were read: each is wholly there, and they are records in turn and behind them closed slots.
pub record Scanned (layout : Layout) (bytes : List ℕ) (k : ℕ) (records : List Record) : Type 0 where
  pub within : (j : ℕ) → j < k → slot_place layout j + 64 ≤ length bytes
  pub counted : length records ≤ k
  pub kept : (j : ℕ) (r : Record) → slice_get records j ≡ Some r → Holds (slot layout bytes j) r
  pub shut : (j : ℕ) → length records ≤ j → j < k → gate_of layout bytes j ≢ gate

abbrev pub SlotsRead : Layout → List ℕ → Result (Vec Record Global) OpenFault → Type 0
SlotsRead layout bytes (Ok records) = FillsSlots layout bytes records.items
SlotsRead layout bytes (Err fault) = IsSlotFault layout bytes fault

-- ---- the whole

-- the live area, its records and the version, or why these weren't read
abbrev pub JournalRead : Header → List ℕ → Result (Area × Vec Record Global × ℕ) OpenFault → Type 0
JournalRead header bytes (Ok read) = Stands (record header { version = read.2 }) read.1.items bytes
    × (read.0.form ≡ form_in bytes) × (read.0.number ≡ live_area bytes)
JournalRead header bytes (Err fault) = IsOpenFault header bytes fault
