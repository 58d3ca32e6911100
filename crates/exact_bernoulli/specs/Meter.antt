-- What a call leaves of a meter, which allows so many draws of a stream of words.
use Rattle.std.specs.Prelude.{◌≡◌, ℕ, ◌-◌, ◌<◌, ◌⊎◌, List, [], ◌++◌, Result, Ok, Err}
use Rattle.fz_outside.specs.Draws.{first_draws, HasDrawn}

-- A meter allows so many draws when it is made.
unfoldable pub draw_limit : ℕ
draw_limit = 4096

-- the draws that it still allows
abbrev pub allowed : {W : Type 0} → (W → ℕ → ℕ) → ℕ → W → List ℕ
allowed draws left words = first_draws left (draws words)

-- As many draws were taken from the words as are left fewer: none, and the words are as they were, or some.
abbrev pub Took : {W : Type 0} → (W → ℕ → ℕ) → (W → ℕ) → (left : ℕ) → (old : W) → (left' : ℕ) → (new : W) → Type 0
Took draws place left old left' new = ((left' ≡ left) × (new ≡ old)) ⊎ ((left' < left) × HasDrawn draws place (left - left') old new)

-- The allowed draws began with a segment that gives the result, and what is behind it is still allowed. At an Err no
-- segment begins them, and none is left.
abbrev pub Takes : {A E : Type 0} → (List ℕ → A → Type 0) → Result A E → List ℕ → List ℕ → Type 0
Takes Segment (Ok a) before behind = (one : List ℕ) × (before ≡ one ++ behind) × Segment one a
Takes {A} Segment (Err e) before behind = (behind ≡ []) × ((one rest : List ℕ) (a : A) → before ≡ one ++ rest → ¬ Segment one a)
