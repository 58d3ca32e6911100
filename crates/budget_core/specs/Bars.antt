-- A verdict as a list of bars.
use Rattle.std.specs.Prelude.{Bool, List, [], ◌∷◌, Result, Ok, Err, if◌then◌else◌}

-- Each bar is a test, with what is said where it holds. The first that holds decides; where none does, this is granted.
abbrev pub first_bar : {A F : Type 0} → List (Bool × F) → A → Result A F
first_bar [] granted = Ok granted
first_bar ((holds, fault) ∷ bars) granted = if holds then Err fault else first_bar bars granted
