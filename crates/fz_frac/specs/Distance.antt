-- Distances and sensitivities without bounds: fractions p/q, and one beyond them all.
-- Two pairs may stand for one number, so distances are compared by cross products, never by ≡.
use Rattle.std.specs.Prelude.{⊤, ℕ, zero, suc, ◌+◌, ◌-◌, ◌*◌, ◌/◌, ◌≤◌, Bool, true, false, cond, nat_le, Option, Some, None}

pub data Distance : Type 0 where
  Fin : (p q : ℕ) → Distance
  Inf : Distance

-- a denominator 0 counts as 1
abbrev pub den : ℕ → ℕ
den zero = 1
den (suc n) = suc n

abbrev pub IsLe : Distance → Distance → Type 0
IsLe (Fin p q) (Fin r s) = p * den s ≤ r * den q
IsLe (Fin p q) Inf = ⊤
IsLe Inf (Fin r s) = ⊥
IsLe Inf Inf = ⊤

-- at most
pub record ◌⊑◌ (a b : Distance) : Type 0 where
  pub le : IsLe a b

infix 40 ◌⊑◌
-- the same number
pub record ◌≈◌ (a b : Distance) : Type 0 where
  pub le : a ⊑ b
  pub ge : b ⊑ a

infix 40 ◌≈◌
-- whether a is at most b
abbrev pub is_le : Distance → Distance → Bool
is_le (Fin p q) (Fin r s) = nat_le (p * den s) (r * den q)
is_le a Inf = true
is_le Inf (Fin r s) = false

abbrev pub none : Distance
none = Fin 0 1

abbrev pub one : Distance
one = Fin 1 1

abbrev pub add : Distance → Distance → Distance
add (Fin p q) (Fin r s) = Fin (p * den s + r * den q) (den q * den s)
add (Fin p q) Inf = Inf
add Inf b = Inf

-- inf times a whole number: 0 times inf is 0
abbrev pub endless : ℕ → Distance
endless zero = Fin 0 1
endless (suc p) = Inf

abbrev pub mul : Distance → Distance → Distance
mul (Fin p q) (Fin r s) = Fin (p * r) (den q * den s)
mul (Fin p q) Inf = endless p
mul Inf (Fin r s) = endless r
mul Inf Inf = Inf

abbrev pub greater : Distance → Distance → Distance
greater a b = cond (is_le a b) b a

-- a over b, which is above 0: the least k with a at most k times b. Over inf it is 0 where a is 0, and else 1
abbrev pub quotient : Distance → Distance → Distance
quotient (Fin p q) (Fin r s) = Fin (p * den s) (den q * r)
quotient Inf (Fin r s) = Inf
quotient a Inf = cond (is_le a none) none one

-- a times a whole number, rounded up to a whole number
abbrev pub ceil_times : Distance → ℕ → Option ℕ
ceil_times (Fin p q) n = Some ((p * n + (den q - 1)) / den q)
ceil_times Inf n = None
