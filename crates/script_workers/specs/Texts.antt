-- What is kept of the texts of a worker's blocks.
use Rattle.std.specs.Prelude.{◌≡◌, ℕ, ◌+◌, List, [], ◌∷◌, length}
use Rattle.std.specs.List.{flat_map}
use Rattle.script_workers.specs.declared.texts.Texts.{Texts}

-- where each text ends, the first of them beginning here
abbrev pub ends_from : ℕ → List (List ℕ) → List ℕ
ends_from n [] = []
ends_from n (text ∷ texts) = (n + length text) ∷ ends_from (n + length text) texts

-- the texts, one behind another
abbrev pub in_all : List (List ℕ) → List ℕ
in_all texts = flat_map (λ text. text) texts

-- These are the texts that are kept.
pub record KeepsTexts (kept : Texts) (texts : List (List ℕ)) : Type 0 where
  pub bytes : kept.bytes.items ≡ in_all texts
  pub ends : kept.ends.items ≡ ends_from 0 texts
