-- What becomes of workers at a gate.
use Rattle.std.specs.Prelude.{◌≡◌, ℕ, ◌+◌, ◌-◌, ◌<◌, ◌≤◌, Bool, MatchBool, List, length, slice_index_or}

-- A worker was told whether to work: it has worked, or it is as it was.
abbrev pub Went : {T : Type 0} → (Does : T → T → Type 0) → (told : Bool) → (before after : T) → Type 0
Went Does told before after = MatchBool told (Does before after) (after ≡ before)

-- What a thread is for: at which gate it waits, what it does there, and for which worker.
pub record Errand (W T : Type 0) : Type 0 where
  pub gate : ℕ
  pub work : W
  pub place : ℕ
  pub before : T

abbrev pub errand : {W T : Type 0} → ℕ → W → ℕ → T → Errand W T
errand gate work place before = record { gate = gate; work = work; place = place; before = before }

module _ {W T : Type 0} where
  -- These threads are for the last workers of a crew, the last worker's first.
  abbrev pub AreOut : (gate : ℕ) → (work : W) → (crew : List T) → List (Errand W T) → Type 0
  AreOut gate work crew errands = (j : ℕ) (d : Errand W T) → j < length errands
      → slice_index_or errands j d ≡ errand gate work (length crew - (j + 1)) (slice_index_or crew (length crew - (j + 1)) d.before)

-- Each worker of a crew may do this, by its place.
abbrev pub CanEach : {T : Type 0} → (Can : ℕ → T → Type 0) → (crew : List T) → Type 0
CanEach Can crew = (i : ℕ) (d : _) → i < length crew → Can i (slice_index_or crew i d)

-- Each worker from a place on has worked, or is as it was.
abbrev pub WentFrom : {T : Type 0} → (told : Bool) → (Does : ℕ → T → T → Type 0) → (first : ℕ) → (before after : List T) → Type 0
WentFrom told Does first before after = (i : ℕ) (d : _) → first ≤ i → i < length before
    → Went (Does i) told (slice_index_or before i d) (slice_index_or after i d)
