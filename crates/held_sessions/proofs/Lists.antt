-- lists in parts
use Rattle.std.proofs.Common.{ℕ, ◌+◌, ◌==◌, Bool, true, false, List, [], ◌∷◌, ◌++◌, map, sym, ◌∙◌, ap, append_assoc}
use Rattle.std.specs.Prelude.{if◌then◌else◌}
use Rattle.std.specs.List.{AllByRecursion}
use Rattle.std.proofs.lemmas.List.{map-append}
use mathlib.Core.List.{IsPrefix}
use Rattle.session_laws.specs.SessionCore.Gathered.{part_of}

pub all_split : {X : Type 0} (P : X → Type 0) (xs ys : List X) → AllByRecursion P (xs ++ ys) → AllByRecursion P xs × AllByRecursion P ys
all_split P [] ys all = (tt, all)
all_split P (x ∷ xs) ys all = let r = all_split P xs ys all.1 in ((all.0, r.0), r.1)

-- what holds of all holds of each worker's
pub part_all : {X : Type 0} (P : X → Type 0) (crew : ℕ → ℕ) (i at : ℕ) (xs : List X) → AllByRecursion P xs → AllByRecursion P (part_of crew i at xs)
part_all P crew i at [] all = tt
part_all P crew i at (x ∷ xs) all = here (part_all P crew i (at + 1) xs all.1) (crew at == i)
  where
    here : AllByRecursion P (part_of crew i (at + 1) xs) → (b : Bool) → AllByRecursion P (if b then x ∷ part_of crew i (at + 1) xs else part_of crew i (at + 1) xs)
    here more true = (all.0, more)
    here more false = more

pub prefix_map : {A B : Type 0} (f : A → B) (xs ys : List A) → IsPrefix xs ys → IsPrefix (map f xs) (map f ys)
prefix_map f xs ys p = (map f p.0, sym (map-append f xs p.0) ∙ ap (map f) p.1)

pub prefix_behind : {X : Type 0} (front xs ys : List X) → IsPrefix xs ys → IsPrefix (front ++ xs) (front ++ ys)
prefix_behind front xs ys p = (p.0, append_assoc front xs p.0 ∙ ap (λ w. front ++ w) p.1)
