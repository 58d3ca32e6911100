-- Bags as lists, and what is done to their elements by a function, which is a relation of what it is given and what it may answer.
use Rattle.std.specs.Fn.{Shared}
use Rattle.std.specs.List.{AllZip, range_with_len}
use Rattle.std.specs.Prelude.{Bool, List, [], false, true, ℕ, ◌∷◌, ◌≡◌, ⊤}
use denote.Ref.{Bor}

-- a function may be called at a `&` to x
abbrev pub FnTakesAt : {F X R : Type 0} → Shared F (Bor X × ⊤) R → F → X → Type 0
FnTakesAt {F} {X} g f x = (p : Bor X) → p.now ≡ x → g.pre f (p, tt)

-- xs are what E gives for the places below n, in order
abbrev pub AreElements : {X : Type 0} → (ℕ → X → Type 0) → ℕ → List X → Type 0
AreElements E n xs = AllZip E (range_with_len 0 n) xs

-- those of xs that are kept
abbrev pub picked : {X : Type 0} → List X → List Bool → List X
picked (x ∷ xs) (true ∷ bs) = x ∷ picked xs bs
picked (x ∷ xs) (false ∷ bs) = picked xs bs
picked xs bs = []

-- those of xs that aren't
abbrev pub others : {X : Type 0} → List X → List Bool → List X
others (x ∷ xs) (true ∷ bs) = others xs bs
others (x ∷ xs) (false ∷ bs) = x ∷ others xs bs
others xs bs = []

-- ys are those of xs for which P answers true, in their order
abbrev pub IsFilter : {X : Type 0} → (X → Bool → Type 0) → List X → List X → Type 0
IsFilter P xs ys = (bs : List Bool) × AllZip P xs bs × (ys ≡ picked xs bs)

-- and zs are those for which it answers false
abbrev pub IsSplit : {X : Type 0} → (X → Bool → Type 0) → List X → List X → List X → Type 0
IsSplit P xs ys zs = (bs : List Bool) × AllZip P xs bs × (ys ≡ picked xs bs) × (zs ≡ others xs bs)
