-- Entries of a history, with their positions.
use Rattle.std.specs.Prelude.{◌≡◌, ℕ, ◌+◌, ◌≤◌, nat_lt, nat_le, if◌then◌else◌, ◌⊎◌, List, [], ◌∷◌, length}

-- It stands somewhere in the list.
abbrev pub Has : {A : Type 0} → A → List A → Type 0
Has a [] = ⊥
Has a (x ∷ xs) = (a ≡ x) ⊎ Has a xs

-- An entry goes in before the first whose position isn't below its own.
abbrev pub put_in : {E : Type 0} → ℕ × E → List (ℕ × E) → List (ℕ × E)
put_in x [] = x ∷ []
put_in x (y ∷ ys) = if nat_le x.0 y.0 then x ∷ y ∷ ys else y ∷ put_in x ys

-- the entries of both, by position
abbrev pub merged : {E : Type 0} → List (ℕ × E) → List (ℕ × E) → List (ℕ × E)
merged [] ys = ys
merged (x ∷ xs) ys = put_in x (merged xs ys)

-- positions in order, each once, none below p
abbrev pub Ascends : {E : Type 0} → ℕ → List (ℕ × E) → Type 0
Ascends p [] = Unit {0}
Ascends p (x ∷ xs) = (p ≤ x.0) × Ascends (x.0 + 1) xs

-- the longer of two lists
abbrev pub longer : {E : Type 0} → List E → List E → List E
longer xs ys = if nat_lt (length xs) (length ys) then ys else xs
