-- Two ascending lists of elements, gone through side by side.
use Rattle.std.proofs.Common.{◌≡◌, refl, ap, ◌∙◌, arith, List, [], ◌∷◌, ℕ, zero, suc, ◌+◌, ◌-◌, ◌<◌, ◌≤◌, length, drop, map, get_or, false, true, Bool, Some, None, ◌⊎◌, inl, inr}
use Rattle.std.specs.declared.cmp.Ordering.{Ordering}
use Rattle.std.specs.declared.cmp.Ordering.TheVariants.{Less, Equal, Greater}
use Rattle.std.specs.Ordering.{is_lt}
use Rattle.std.specs.List.Sorted.{IsPermutation, IsSorted}
use Rattle.std.specs.Prelude.{⊤}
use Rattle.std.proofs.lemmas.List.Sorted.{IsPermutation-map, IsPermutation-sym, ranks_by, sorted_far}
use Rattle.metric_values.proofs.Elements.{same_element_is, same_element_refl}
use Rattle.metric_values.proofs.Removal.{permuted_zero, removal_symmetric, removal_triangle}
use Rattle.metric_values.specs.Distances.{bag_distance, same_element, without}
use Rattle.metric_values.specs.Values.{Flat}
use Rattle.value_distance.specs.Order.{element_cmp}
use Rattle.value_distance.proofs.Ordered.{element_cmp_total, element_tie, element_tied, less_then}

-- no element of the list is below x
abbrev pub Above : Flat → List Flat → Type 0
Above x [] = ⊤
Above x (y ∷ ys) = (is_lt (element_cmp y x) ≡ false) × Above x ys

abbrev pub Ascends : List Flat → Type 0
Ascends [] = ⊤
Ascends (x ∷ xs) = Above x xs × Ascends xs

-- x is below each element of the list
abbrev Below : Flat → List Flat → Type 0
Below x [] = ⊤
Below x (y ∷ ys) = (element_cmp x y ≡ Less) × Below x ys

below_all : (x y : Flat) (ys : List Flat) → element_cmp x y ≡ Less → Above y ys → Below x ys
below_all x y [] h a = tt
below_all x y (z ∷ zs) h a = (less_then x y z h a.0, below_all x y zs h a.1)

differs : (x y : Flat) → element_cmp x y ≡ Less → same_element x y ≡ false
differs x y h = go (same_element x y) refl
  where
    go : (b : Bool) → same_element x y ≡ b → b ≡ false
    go true e = let a : x ≡ y = same_element_is x y e in let b : element_cmp x y ≡ Equal = element_tied x y a in cc
    go false e = refl

without_below : (x : Flat) (ys : List Flat) → Below x ys → without x ys ≡ None
without_below x [] h = refl
without_below x (y ∷ ys) h = rw (differs x y h.0, without_below x ys h.1) refl

-- the lower head is in the other list nowhere
pub lower_head : (x y : Flat) (xs ys : List Flat) → Ascends (y ∷ ys) → element_cmp x y ≡ Less → bag_distance (x ∷ xs) (y ∷ ys) ≡ suc (bag_distance xs (y ∷ ys))
lower_head x y xs ys a h = let e : without x (y ∷ ys) ≡ None = without_below x (y ∷ ys) (h, below_all x y ys h a.0) in rw (bag_distance, e) refl

pub equal_heads : (x y : Flat) (xs ys : List Flat) → element_cmp x y ≡ Equal → bag_distance (x ∷ xs) (y ∷ ys) ≡ bag_distance xs ys
equal_heads x y xs ys h = let e : x ≡ y = element_tie x y h in let s : same_element x y ≡ true = rw (← e) (same_element_refl x) in let w : without x (y ∷ ys) ≡ Some ys = rw s refl in rw (bag_distance, w) refl

pub higher_head : (x y : Flat) (xs ys : List Flat) → Ascends (x ∷ xs) → element_cmp x y ≡ Greater → bag_distance (x ∷ xs) (y ∷ ys) ≡ suc (bag_distance (x ∷ xs) ys)
higher_head x y xs ys a h =
    let e : element_cmp y x ≡ Less = let f = element_cmp_total.antisymm y x in rw (f, h) refl in
    removal_symmetric (x ∷ xs) (y ∷ ys) ∙ lower_head y x ys xs a e ∙ ap suc (removal_symmetric ys (x ∷ xs))

pub none_on_right : (xs : List Flat) → bag_distance xs [] ≡ length xs
none_on_right xs = removal_symmetric xs []

-- the same from two places on, where f gives the elements

pub ascends_from : (i : ℕ) (xs : List Flat) → Ascends xs → Ascends (drop i xs)
ascends_from zero xs a = a
ascends_from (suc i) [] a = tt
ascends_from (suc i) (x ∷ xs) a = ascends_from i xs a.1

pub head_at : {X : Type 0} (f : X → Flat) (i : ℕ) (xs : List X) (d : X) → i < length xs → drop i (map f xs) ≡ f (get_or xs i d) ∷ drop (i + 1) (map f xs)
head_at f i [] d h = absurd (omega arith)
head_at f zero (x ∷ xs) d h = refl
head_at f (suc i) (x ∷ xs) d h = let e : suc i + 1 ≡ suc (i + 1) = omega arith in rw e (head_at f i xs d (omega arith))

pub lower_at : {X : Type 0} (f : X → Flat) (xs ys : List X) (i j : ℕ) (d e : X) → Ascends (map f ys) → i < length xs → j < length ys → element_cmp (f (get_or xs i d)) (f (get_or ys j e)) ≡ Less
    → bag_distance (drop i (map f xs)) (drop j (map f ys)) ≡ suc (bag_distance (drop (i + 1) (map f xs)) (drop j (map f ys)))
lower_at f xs ys i j d e a h k l =
    let p = head_at f i xs d h in
    let q = head_at f j ys e k in
    let b = rw q at (ascends_from j (map f ys) a) in
    rw (p, q) (lower_head (f (get_or xs i d)) (f (get_or ys j e)) (drop (i + 1) (map f xs)) (drop (j + 1) (map f ys)) b l)

pub equal_at : {X : Type 0} (f : X → Flat) (xs ys : List X) (i j : ℕ) (d e : X) → i < length xs → j < length ys → element_cmp (f (get_or xs i d)) (f (get_or ys j e)) ≡ Equal
    → bag_distance (drop i (map f xs)) (drop j (map f ys)) ≡ bag_distance (drop (i + 1) (map f xs)) (drop (j + 1) (map f ys))
equal_at f xs ys i j d e h k l = rw (head_at f i xs d h, head_at f j ys e k) (equal_heads (f (get_or xs i d)) (f (get_or ys j e)) (drop (i + 1) (map f xs)) (drop (j + 1) (map f ys)) l)

pub higher_at : {X : Type 0} (f : X → Flat) (xs ys : List X) (i j : ℕ) (d e : X) → Ascends (map f xs) → i < length xs → j < length ys → element_cmp (f (get_or xs i d)) (f (get_or ys j e)) ≡ Greater
    → bag_distance (drop i (map f xs)) (drop j (map f ys)) ≡ suc (bag_distance (drop i (map f xs)) (drop (j + 1) (map f ys)))
higher_at f xs ys i j d e a h k l =
    let p = head_at f i xs d h in
    let q = head_at f j ys e k in
    let b = rw p at (ascends_from i (map f xs) a) in
    rw (p, q) (higher_head (f (get_or xs i d)) (f (get_or ys j e)) (drop (i + 1) (map f xs)) (drop (j + 1) (map f ys)) b l)

drop_length : (i : ℕ) (xs : List Flat) → length (drop i xs) ≡ length xs - i
drop_length zero xs = omega arith
drop_length (suc i) [] = omega arith
drop_length (suc i) (x ∷ xs) = let e = drop_length i xs in omega (arith, e)

drop_all : (i : ℕ) (xs : List Flat) → length xs ≤ i → drop i xs ≡ []
drop_all zero [] h = refl
drop_all zero (x ∷ xs) h = absurd (omega arith)
drop_all (suc i) [] h = refl
drop_all (suc i) (x ∷ xs) h = drop_all i xs (omega arith)

-- where one list is through, what is left of the other counts
pub left_of_one : (xs ys : List Flat) (i j : ℕ) → i ≤ length xs → j ≤ length ys → (length xs ≤ i) ⊎ (length ys ≤ j) → bag_distance (drop i xs) (drop j ys) ≡ (length xs - i) + (length ys - j)
left_of_one xs ys i j h k (inl l) = let e : bag_distance (drop i xs) (drop j ys) ≡ length (drop j ys) = rw (drop_all i xs l) refl in let f = drop_length j ys in omega (arith, e, f)
left_of_one xs ys i j h k (inr l) = let e : bag_distance (drop i xs) (drop j ys) ≡ length (drop i xs) = rw (drop_all j ys l) (none_on_right (drop i xs)) in let f = drop_length i xs in omega (arith, e, f)

-- a sorted list ascends

above_sorted : {X : Type 0} (f : X → Flat) (x : X) (xs : List X) → ((j : ℕ) (d : X) → j < length xs → is_lt (element_cmp (f (get_or xs j d)) (f x)) ≡ false) → Above (f x) (map f xs)
above_sorted f x [] h = tt
above_sorted f x (y ∷ ys) h = (h 0 y (omega arith), above_sorted f x ys (λ j d k. h (suc j) d (omega arith)))

pub sorted_ascends : {X : Type 0} (f : X → Flat) (xs : List X) → IsSorted (λ a b. element_cmp (f a) (f b)) xs → Ascends (map f xs)
sorted_ascends f [] s = tt
sorted_ascends f (x ∷ xs) s = (
  above_sorted f x xs (λ j d k. sorted_far (λ a b. is_lt (element_cmp (f a) (f b))) (ranks_by element_cmp_total f) (x ∷ xs) s 0 (suc j) d (omega arith) (omega arith)),
  sorted_ascends f xs (λ k d l h. let e : suc k + 1 ≡ suc (k + 1) = omega arith in rw e at (s (suc k) d (omega arith) (omega arith))),
)

-- the order of the lists doesn't matter

pub reordered_left : (xs us ys : List Flat) → IsPermutation xs us → bag_distance us ys ≡ bag_distance xs ys
reordered_left xs us ys p =
    let a = removal_triangle us xs ys in
    let b = removal_triangle xs us ys in
    let c = permuted_zero xs us p in
    let d = permuted_zero us xs (IsPermutation-sym xs us p) in omega (arith, a, b, c, d)

pub reordered : (xs us ys vs : List Flat) → IsPermutation xs us → IsPermutation ys vs → bag_distance us vs ≡ bag_distance xs ys
reordered xs us ys vs p q = reordered_left xs us vs p ∙ removal_symmetric xs vs ∙ reordered_left ys vs xs q ∙ removal_symmetric ys xs

-- a step of going through both, at the elements x and y

pub after_lower : {X : Type 0} (f : X → Flat) (xs ys : List X) (i j n t : ℕ) (x y : X) (r : Ordering) → IsSorted (λ a b. element_cmp (f a) (f b)) ys → i < length xs → j < length ys → x ≡ get_or xs i x → y ≡ get_or ys j y
    → r ≡ element_cmp (f x) (f y) → r ≡ Less → n + bag_distance (drop i (map f xs)) (drop j (map f ys)) ≡ t → n + 1 + bag_distance (drop (i + 1) (map f xs)) (drop j (map f ys)) ≡ t
after_lower f xs ys i j n t x y r s h k p q c l e =
    let o : element_cmp (f (get_or xs i x)) (f (get_or ys j y)) ≡ Less = rw (← p, ← q, ← c) l in
    let a = lower_at f xs ys i j x y (sorted_ascends f ys s) h k o in omega (arith, a, e)

pub after_equal : {X : Type 0} (f : X → Flat) (xs ys : List X) (i j n t : ℕ) (x y : X) (r : Ordering) → i < length xs → j < length ys → x ≡ get_or xs i x → y ≡ get_or ys j y
    → r ≡ element_cmp (f x) (f y) → r ≡ Equal → n + bag_distance (drop i (map f xs)) (drop j (map f ys)) ≡ t → n + bag_distance (drop (i + 1) (map f xs)) (drop (j + 1) (map f ys)) ≡ t
after_equal f xs ys i j n t x y r h k p q c l e =
    let o : element_cmp (f (get_or xs i x)) (f (get_or ys j y)) ≡ Equal = rw (← p, ← q, ← c) l in
    let a = equal_at f xs ys i j x y h k o in omega (arith, a, e)

pub after_higher : {X : Type 0} (f : X → Flat) (xs ys : List X) (i j n t : ℕ) (x y : X) (r : Ordering) → IsSorted (λ a b. element_cmp (f a) (f b)) xs → i < length xs → j < length ys → x ≡ get_or xs i x → y ≡ get_or ys j y
    → r ≡ element_cmp (f x) (f y) → r ≡ Greater → n + bag_distance (drop i (map f xs)) (drop j (map f ys)) ≡ t → n + 1 + bag_distance (drop i (map f xs)) (drop (j + 1) (map f ys)) ≡ t
after_higher f xs ys i j n t x y r s h k p q c l e =
    let o : element_cmp (f (get_or xs i x)) (f (get_or ys j y)) ≡ Greater = rw (← p, ← q, ← c) l in
    let a = higher_at f xs ys i j x y (sorted_ascends f xs s) h k o in omega (arith, a, e)

pub at_the_end : {X : Type 0} (f : X → Flat) (xs ys : List X) (i j n t : ℕ) → i ≤ length xs → j ≤ length ys → (length xs ≤ i) ⊎ (length ys ≤ j) → n + bag_distance (drop i (map f xs)) (drop j (map f ys)) ≡ t
    → n + (length xs - i) + (length ys - j) ≡ t
at_the_end f xs ys i j n t h k o e =
    let a : length (map f xs) ≡ length xs = map_length f xs in
    let b : length (map f ys) ≡ length ys = map_length f ys in
    let c = left_of_one (map f xs) (map f ys) i j (omega (arith, a, h)) (omega (arith, b, k)) (rw (a, b) o) in omega (arith, a, b, c, e)
  where
    map_length : {X : Type 0} (f : X → Flat) (xs : List X) → length (map f xs) ≡ length xs
    map_length f [] = refl
    map_length f (x ∷ xs) = ap suc (map_length f xs)

pub sorted_apart : {X : Type 0} (f : X → Flat) (xs us ys vs : List X) → IsPermutation xs us → IsPermutation ys vs → bag_distance (map f us) (map f vs) ≡ bag_distance (map f xs) (map f ys)
sorted_apart f xs us ys vs p q = reordered (map f xs) (map f us) (map f ys) (map f vs) (IsPermutation-map f xs us p) (IsPermutation-map f ys vs q)
