-- One part put behind another.
use Rattle.std.proofs.Common.{◌≡◌, ℕ, ◌+◌, List, [], ◌++◌, refl, length, take, sym, ◌∙◌, ap, arith}
use Rattle.std.proofs.lemmas.List.{take_all}

-- these bytes, known to be ys, from m to n
pub next : (m n : ℕ) (old new xs bytes ys : List ℕ) → take m old ≡ xs → take (m + length bytes) new ≡ take m old ++ bytes → bytes ≡ ys → m + length ys ≡ n
    → take n new ≡ xs ++ ys
next m n old new xs bytes ys so_far put known end =
    let to_end : m + length bytes ≡ n = ap (λ (b : List ℕ). m + length b) known ∙ end in
    ap (λ (i : ℕ). take i new) (sym to_end) ∙ put ∙ ap (λ (front : List ℕ). front ++ bytes) so_far ∙ ap (λ (b : List ℕ). xs ++ b) known

pub whole : (n : ℕ) (out xs : List ℕ) → length out ≡ n → take n out ≡ xs → out ≡ xs
whole n out xs long is = sym (take_all n out (omega arith)) ∙ is

-- and from the start
pub first : (n : ℕ) (new bytes ys : List ℕ) → take (0 + length bytes) new ≡ bytes → bytes ≡ ys → 0 + length ys ≡ n → take n new ≡ ys
first n new bytes ys put known end = next 0 n ys new [] bytes ys refl put known end
