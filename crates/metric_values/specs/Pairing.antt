-- Elements of two lists paired off, equal ones with each other, in whatever order they stand.
use Rattle.std.specs.Prelude.{ℕ, suc, List, [], ◌∷◌}
use Rattle.metric_values.specs.Values.{Flat}

-- the second list is the first with x put in somewhere
pub data Insert (x : Flat) : List Flat → List Flat → Type 0 where
  at_front : {xs : List Flat} → Insert x xs (x ∷ xs)
  behind : {y : Flat} {xs ys : List Flat} → Insert x xs ys → Insert x (y ∷ xs) (y ∷ ys)

-- all but n elements of both lists are paired off
pub data Differ : List Flat → List Flat → ℕ → Type 0 where
  none_left : Differ [] [] 0
  in_both : {x : Flat} {xs ys xs' ys' : List Flat} {n : ℕ} → Differ xs ys n → Insert x xs xs' → Insert x ys ys' → Differ xs' ys' n
  on_left : {x : Flat} {xs ys xs' : List Flat} {n : ℕ} → Differ xs ys n → Insert x xs xs' → Differ xs' ys (suc n)
  on_right : {x : Flat} {xs ys ys' : List Flat} {n : ℕ} → Differ xs ys n → Insert x ys ys' → Differ xs ys' (suc n)
