-- the pieces of a message, one more
use Rattle.std.proofs.Common.{◌≡◌, ◌<◌, ◌∙◌, ℕ, ◌+◌, length, List, [], ◌∷◌, ◌++◌, sym, ap, take, get_or}
use Rattle.std.specs.List.{concat}
use Rattle.std.proofs.lemmas.List.{take_more, append_assoc, append-nil}
use Rattle.std.proofs.lemmas.List.Folds.{concat-append}

pub concat_more : (a : List ℕ) (xs : List (List ℕ)) (i : ℕ) → i < length xs
    → a ++ concat (take (i + 1) xs) ≡ a ++ concat (take i xs) ++ get_or xs i []
concat_more a xs i h =
    ap (λ t. a ++ concat t) (take_more xs i [] h)
    ∙ ap (λ t. a ++ t) (concat-append (take i xs) (get_or xs i [] ∷ []) ∙ ap (λ t. concat (take i xs) ++ t) (append-nil (get_or xs i [])))
    ∙ sym (append_assoc a (concat (take i xs)) (get_or xs i []))
