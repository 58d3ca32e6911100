-- what stands once among lists, by weights
use Rattle.std.proofs.Common.{◌≡◌, ℕ, zero, suc, ◌+◌, ◌<◌, ◌≤◌, ◌==◌, List, [], ◌∷◌, length, slice_get, Some, refl, sym, ap, subst, arith, eq-eqb, ne_eqb}
use Rattle.std.specs.Prelude.{if◌then◌else◌, sum_by}
use Rattle.std.specs.List.{flat_map, enumerate_from}
use Rattle.std.proofs.lemmas.List.Sums.{sum_by-append, sum_by-cons}
use Rattle.std.proofs.lemmas.Bool.{cases_lt}
use mathlib.Core.Logic.{inl, inr, dite}
use native.Mathlib.Decide.{ℕ_discrete}
use Rattle.journal_records.specs.declared.records.Record.{Record}
use Rattle.session_core.specs.OwnerDesk.Passes.{Told}
use Rattle.session_core.specs.OwnerDesk.Answers.{Has}

-- how often a place is told
abbrev pub at_place : ℕ → Told → ℕ
at_place p z = if z.0 == p then 1 else 0

at_its_place : (z : Told) → at_place z.0 z ≡ 1
at_its_place z = rw (eq-eqb z.0 z.0 refl) refl

at_another : (p : ℕ) (z : Told) → (z.0 ≡ p → ⊥) → at_place p z ≡ 0
at_another p z other = rw (ne_eqb z.0 p other) refl

pub has_counted : (p : ℕ) (zs : List Told) → 1 ≤ sum_by (at_place p) zs → (r : Record) × Has (p, r) zs
has_counted p [] h = absurd (omega (arith, h))
has_counted p (z ∷ zs) h = dite (ℕ_discrete z.0 p)
    (λ e. (z.1, inl (ap (λ (k : ℕ). (k, z.1)) (sym e))))
    (λ other.
    let none = at_another p z other in
    let rest = has_counted p zs (omega (arith, h, none, sum_by-cons (at_place p) z zs)) in
    (rest.0, inr rest.1))

pub counted_has : (p : ℕ) (r : Record) (zs : List Told) → Has (p, r) zs → 1 ≤ sum_by (at_place p) zs
counted_has p r [] h = absurd h
counted_has p r (z ∷ zs) (inl e) =
    let same : z.0 ≡ p = sym (ap (λ (y : Told). y.0) e) in
    let here : at_place p z ≡ 1 = subst (λ (k : ℕ). at_place k z ≡ 1) same (at_its_place z) in
    omega (arith, here, sum_by-cons (at_place p) z zs)
counted_has p r (z ∷ zs) (inr h) = omega (arith, counted_has p r zs h, sum_by-cons (at_place p) z zs)

module _ {X : Type 0} (f : X → List Told) (h : Told → ℕ) where
  weighed : (x : X) (xs : List X) → sum_by h (flat_map f (x ∷ xs)) ≡ sum_by h (f x) + sum_by h (flat_map f xs)
  weighed x xs = sum_by-append h (f x) (flat_map f xs)

  -- a weight comes from one of the lists
  pub found_in : (xs : List X) → 1 ≤ sum_by h (flat_map f xs) → (j : ℕ) × (x : X) × (slice_get xs j ≡ Some x) × (1 ≤ sum_by h (f x))
  found_in [] le = absurd (omega (arith, le))
  found_in (x ∷ xs) le = elim (cases_lt 0 (sum_by h (f x))) [
    | inl here ↦ (0, x, refl, omega (arith, here))
    | inr none ↦ let rest = found_in xs (omega (arith, le, none, weighed x xs)) in (suc rest.0, rest.1, rest.2, rest.3)
  ]

  -- and each has its own
  pub one_in : (xs : List X) (j : ℕ) (x : X) → slice_get xs j ≡ Some x → sum_by h (f x) ≤ sum_by h (flat_map f xs)
  one_in [] j x at = absurd (cc (at))
  one_in (y ∷ xs) zero x at = let same : y ≡ x = cc in let here : sum_by h (f y) ≡ sum_by h (f x) = ap (λ (z : X). sum_by h (f z)) same in omega (arith, here, weighed y xs)
  one_in (y ∷ xs) (suc j) x at = omega (arith, one_in xs j x at, weighed y xs)

  pub two_in : (xs : List X) (j k : ℕ) (x y : X) → j < k → slice_get xs j ≡ Some x → slice_get xs k ≡ Some y → sum_by h (f x) + sum_by h (f y) ≤ sum_by h (flat_map f xs)
  two_in [] j k x y lt at there = absurd (cc (at))
  two_in (z ∷ xs) j zero x y lt at there = absurd (omega (arith, lt))
  two_in (z ∷ xs) zero (suc k) x y lt at there =
      let same : z ≡ x = cc in
      let here : sum_by h (f z) ≡ sum_by h (f x) = ap (λ (w : X). sum_by h (f w)) same in
      omega (arith, here, one_in xs k y there, weighed z xs)
  two_in (z ∷ xs) (suc j) (suc k) x y lt at there = omega (arith, two_in xs j k x y (omega (arith, lt)) at there, weighed z xs)

-- the places from b on come once each
pub numbered_out : (b p : ℕ) (rs : List Record) → p < b → sum_by (at_place p) (enumerate_from b rs) ≡ 0
numbered_out b p [] lt = refl
numbered_out b p (r ∷ rs) lt =
    let none : at_place p (b, r) ≡ 0 = at_another p (b, r) (λ e. omega (arith, e, lt)) in
    omega (arith, none, sum_by-cons (at_place p) (b, r) (enumerate_from (b + 1) rs), numbered_out (b + 1) p rs (omega (arith, lt)))

pub numbered_in : (b p : ℕ) (rs : List Record) → b ≤ p → p < b + length rs → sum_by (at_place p) (enumerate_from b rs) ≡ 1
numbered_in b p [] le lt = absurd (omega (arith, le, lt))
numbered_in b p (r ∷ rs) le lt = dite (ℕ_discrete b p)
    (λ e.
    let here : at_place p (b, r) ≡ 1 = subst (λ (k : ℕ). at_place k (b, r) ≡ 1) e (at_its_place (b, r)) in
    omega (arith, here, sum_by-cons (at_place p) (b, r) (enumerate_from (b + 1) rs), numbered_out (b + 1) p rs (omega (arith, e))))
    (λ other.
    let none : at_place p (b, r) ≡ 0 = at_another p (b, r) other in
    omega (arith, none, sum_by-cons (at_place p) (b, r) (enumerate_from (b + 1) rs), numbered_in (b + 1) p rs (omega (arith, le, other)) (omega (arith, lt))))
