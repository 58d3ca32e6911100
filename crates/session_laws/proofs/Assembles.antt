-- the workers' exchanges, put in the script's order
use Rattle.std.proofs.Common.{◌≡◌, ℕ, zero, suc, ◌+◌, ◌<◌, ◌≤◌, ◌==◌, Bool, true, false, List, [], ◌∷◌, map, refl, sym, ◌∙◌, ap, subst, arith, eq-eqb, eqb-true, ne_eqb}
use Rattle.std.specs.Prelude.{if◌then◌else◌, sum_by}
use Rattle.std.specs.List.{flat_map}
use Rattle.std.proofs.lemmas.List.Sums.{sum_by-append}
use mathlib.Core.Logic.{dite}
use native.Mathlib.Decide.{ℕ_discrete}
use Rattle.session_core.specs.OwnerDesk.Passes.{Told}
use Rattle.session_core.specs.Gathered.{part_of, added_below}

-- one list, in the order of ts, in which each worker finds its own again
pub record InOrder {X T : Type 0} (f : X → T) (count : ℕ) (crew : ℕ → ℕ) (at : ℕ) (ts : List T) (parts : ℕ → List X) : Type 0 where
  pub all : List X
  pub are : map f all ≡ ts
  pub parts_are : (i : ℕ) → i < count → part_of crew i at all ≡ parts i

module _ {X T : Type 0} (f : X → T) (crew : ℕ → ℕ) where
  abbrev rest_of : List X → List X
  rest_of [] = []
  rest_of (x ∷ xs) = xs

  -- one item more of worker i, where it is the one whose turn it is
  abbrev less : (b : Bool) → List X → List X
  less b xs = if b then rest_of xs else xs

  first_of : (t : T) (ts : List T) (xs : List X) → map f xs ≡ t ∷ ts → (x : X) × (f x ≡ t) × (xs ≡ x ∷ rest_of xs)
  first_of t ts [] is = absurd (cc (is))
  first_of t ts (x ∷ xs) is = let same : f x ≡ t = cc in (x, same, refl)

  rest_is : (b : Bool) (t : T) (ts : List T) (xs : List X) → map f xs ≡ (if b then t ∷ ts else ts) → map f (less b xs) ≡ ts
  rest_is true t ts [] is = absurd (cc (is))
  rest_is true t ts (x ∷ xs) is = let same : map f xs ≡ ts = cc in same
  rest_is false t ts xs is = is

  true_part : (b : Bool) (t : T) (ts : List T) (xs : List X) → b ≡ true → map f xs ≡ (if b then t ∷ ts else ts) → map f xs ≡ t ∷ ts
  true_part true t ts xs hit is = is
  true_part false t ts xs hit is = absurd (cc (hit))

  back : (b : Bool) (x : X) (got xs : List X) → got ≡ less b xs → (b ≡ true → xs ≡ x ∷ rest_of xs) → (if b then x ∷ got else got) ≡ xs
  back true x got xs is first = ap (λ (w : List X). x ∷ w) is ∙ sym (first refl)
  back false x got xs is first = is

  pub in_order : (count : ℕ) → ((at : ℕ) → crew at < count) → (at : ℕ) (ts : List T) (parts : ℕ → List X) → ((i : ℕ) → i < count → map f (parts i) ≡ part_of crew i at ts) → InOrder f count crew at ts parts
  in_order count crews at [] parts each = record { all = []; are = refl; parts_are = λ i lt. none (parts i) (each i lt) }
    where
      none : (xs : List X) → map f xs ≡ [] → [] ≡ xs
      none [] is = refl
      none (x ∷ xs) is = absurd (cc (is))
  in_order count crews at (t ∷ ts) parts each =
      let w : ℕ = crew at in
      let first = first_of t (part_of crew w (at + 1) ts) (parts w) (true_part (w == w) t (part_of crew w (at + 1) ts) (parts w) (eq-eqb w w refl) (each w (crews at))) in
      let rest = in_order count crews (at + 1) ts (λ i. less (w == i) (parts i)) (λ i lt. rest_is (w == i) t (part_of crew i (at + 1) ts) (parts i) (each i lt)) in
      record {
        all = first.0 ∷ rest.all;
        are = ap (λ (y : T). y ∷ map f rest.all) first.1 ∙ ap (λ (w : List T). t ∷ w) rest.are;
        parts_are = λ i lt. back (w == i) first.0 (part_of crew i (at + 1) rest.all) (parts i) (rest.parts_are i lt)
            (λ hit. subst (λ (k : ℕ). parts k ≡ first.0 ∷ rest_of (parts k)) (eqb-true w i hit) first.2);
      }

-- sums over workers
pub added_same : (F G : ℕ → ℕ) (n : ℕ) → ((i : ℕ) → i < n → F i ≡ G i) → added_below F n ≡ added_below G n
added_same F G zero each = refl
added_same F G (suc n) each = omega (arith, added_same F G n (λ i lt. each i (omega (arith, lt))), each n (omega arith))

added_none : (n : ℕ) → added_below (λ i. 0) n ≡ 0
added_none zero = refl
added_none (suc n) = omega (arith, added_none n)

-- an amount that comes at one worker alone
added_miss : (w a n : ℕ) (F : ℕ → ℕ) → n ≤ w → added_below (λ i. if w == i then a + F i else F i) n ≡ added_below F n
added_miss w a zero F le = refl
added_miss w a (suc n) F le =
    let here : (if w == n then a + F n else F n) ≡ F n = rw (ne_eqb w n (λ e. omega (arith, e, le))) refl in
    omega (arith, here, added_miss w a n F (omega (arith, le)))

added_hit : (w a n : ℕ) (F : ℕ → ℕ) → w < n → added_below (λ i. if w == i then a + F i else F i) n ≡ a + added_below F n
added_hit w a zero F lt = absurd (omega (arith, lt))
added_hit w a (suc n) F lt = dite (ℕ_discrete w n)
    (λ e.
    let here : (if w == n then a + F n else F n) ≡ a + F n = rw (eq-eqb w n e) refl in
    omega (arith, here, added_miss w a n F (omega (arith, e))))
    (λ other.
    let here : (if w == n then a + F n else F n) ≡ F n = rw (ne_eqb w n other) refl in
    omega (arith, here, added_hit w a n F (omega (arith, lt, other))))

module _ {X : Type 0} (f : X → List Told) (h : Told → ℕ) (crew : ℕ → ℕ) (count : ℕ) (crews : (at : ℕ) → crew at < count) where
  abbrev weight : List X → ℕ
  weight xs = sum_by h (flat_map f xs)

  weight_if : (b : Bool) (x : X) (xs : List X) → weight (if b then x ∷ xs else xs) ≡ (if b then sum_by h (f x) + weight xs else weight xs)
  weight_if true x xs = sum_by-append h (f x) (flat_map f xs)
  weight_if false x xs = refl

  -- What the parts weigh, all weighs.
  pub parts_weigh : (at : ℕ) (xs : List X) → added_below (λ i. weight (part_of crew i at xs)) count ≡ weight xs
  parts_weigh at [] = added_none count
  parts_weigh at (x ∷ xs) =
      let F : ℕ → ℕ = λ i. weight (part_of crew i (at + 1) xs) in
      let split : added_below (λ i. weight (part_of crew i at (x ∷ xs))) count ≡ added_below (λ i. if crew at == i then sum_by h (f x) + F i else F i) count
      = added_same _ _ count (λ i lt. weight_if (crew at == i) x (part_of crew i (at + 1) xs)) in
      omega (arith, split, added_hit (crew at) (sum_by h (f x)) count F (crews at), parts_weigh (at + 1) xs, sum_by-append h (f x) (flat_map f xs))
