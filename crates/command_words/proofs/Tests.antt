-- A test of words, and of their texts.
use Rattle.std.proofs.Common.{◌≡◌, ◌||◌, Bool, refl, ap, List, [], ◌∷◌}
use Rattle.std.specs.Prelude.{map}
use Rattle.std.specs.List.{list_any}

pub any-map : {A B : Type 0} (text : A → B) (test : B → Bool) (words : List A) → list_any (λ word. test (text word)) words ≡ list_any test (map text words)
any-map text test [] = refl
any-map text test (word ∷ words) = ap (λ (rest : Bool). test (text word) || rest) (any-map text test words)
