-- What a bay shows of its disks.
use Rattle.std.specs.Prelude.{◌≡◌, ℕ, List, Option, None, Some, slice_get, ◌==◌, if◌then◌else◌}
use Rattle.outside_disks.specs.Stored.{Stored}

-- At this number there is this now, and all else is as it was.
abbrev pub Changes : ℕ → Option Stored → (old new : ℕ → Option Stored) → Type 0
Changes owner now old new = (n : ℕ) → new n ≡ (if n == owner then now else old n)

abbrev pub Same : (old new : ℕ → Option Stored) → Type 0
Same old new = (n : ℕ) → new n ≡ old n

-- what the disks in a list show, where they are there
abbrev pub shown_at : {A : Type 0} → (A → Stored) → Option (Option A) → Option Stored
shown_at show None = None
shown_at show (Some None) = None
shown_at show (Some (Some disk)) = Some (show disk)

abbrev pub shelf_of : {A : Type 0} → (A → Stored) → List (Option A) → ℕ → Option Stored
shelf_of show disks n = shown_at show (slice_get disks n)
