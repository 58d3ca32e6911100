-- The rows of a class are those that pass a test, which one key's alone do.
use Rattle.std.proofs.Common.{◌≡◌, ◌<◌, ℕ, zero, suc, Bool, true, false, Option, Some, None, List, [], ◌∷◌, length, get_or, refl, arith}
use Rattle.std.specs.Prelude.{bytes_eq, filter, slice_get}
use Rattle.std.specs.List.{IsDistinct}
use Rattle.std.proofs.lemmas.Map.Keys.{apart_from_distinct}
use Rattle.std.proofs.lemmas.Slice.Eq.{bytes_eq-Decides}
use Rattle.metric_values.specs.Values.{Flat}
use Rattle.table_store.specs.Groups.{has_text}
use Rattle.table_store.proofs.GroupLaws.{one_text}
use Rattle.part_views.specs.Cuts.{Class, class_of, rows_of_class}

-- whether a row is of a class
abbrev pub of_class : Class → Option (List ℕ) → Flat → Bool
of_class class None row = false
of_class class (Some key) row = has_text key (class_of class row)

pub rows_of_class_pass : (class : Class) (key : Option (List ℕ)) (rows : List Flat) → rows_of_class class key rows ≡ filter (of_class class key) rows
rows_of_class_pass class (Some key) rows = refl
rows_of_class_pass class None [] = refl
rows_of_class_pass class None (x ∷ rows) = rows_of_class_pass class None rows

not_before : (keys : List (List ℕ)) (m n : ℕ) (cell : Flat) → IsDistinct bytes_eq keys → m < n → n < length keys
    → has_text (get_or keys m []) cell ≡ true → has_text (get_or keys n []) cell ≡ true → ⊥
not_before keys m n cell distinct before low h k =
    let a = get_or keys m [] in
    let b = get_or keys n [] in
    let differ : bytes_eq a b ≡ false = apart_from_distinct bytes_eq keys m n [] distinct before low in
    let equal : bytes_eq a b ≡ true = (bytes_eq-Decides a b).1 (one_text cell a b h k) in
    cc

there : (class : Class) (keys : List (List ℕ)) (i : ℕ) (row : Flat) → of_class class (slice_get keys i) row ≡ true
    → (i < length keys) × (has_text (get_or keys i []) (class_of class row) ≡ true)
there class [] i row h = absurd cc
there class (key ∷ keys) zero row h = (omega arith, h)
there class (key ∷ keys) (suc i) row h = let rest = there class keys i row h in (omega (arith, rest.0), rest.1)

-- a row is of the key of one number at most
pub one_key : (keys : List (List ℕ)) (class : Class) → IsDistinct bytes_eq keys → (i j : ℕ) (row : Flat)
    → of_class class (slice_get keys i) row ≡ true → of_class class (slice_get keys j) row ≡ true → i ≡ j
one_key keys class distinct i j row h k =
    let a = there class keys i row h in
    let b = there class keys j row k in
    let first : i < j → ⊥ = λ before. not_before keys i j (class_of class row) distinct before b.0 a.1 b.1 in
    let second : j < i → ⊥ = λ before. not_before keys j i (class_of class row) distinct before a.0 b.1 a.1 in
    omega arith
