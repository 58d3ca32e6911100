-- Lowest terms, and which fractions have a numerator and a denominator of 32 bits in them.
use Rattle.std.specs.Prelude.{⊤, ℕ, zero, suc, ◌/◌, ◌%◌, ◌<◌, ◌≤◌, Bool, false, cond, nat_eq, nat_le, ◌&&◌, not}
use Rattle.fz_frac.specs.Distance.{Distance, Fin, Inf, den, ◌≈◌}

-- Euclid's algorithm, with a bound on its steps
unfoldable pub gcd_in : ℕ → ℕ → ℕ → ℕ
gcd_in zero a b = a
gcd_in (suc n) a b = cond (nat_eq b 0) a (gcd_in n b (a % b))

-- the greatest common divisor
unfoldable pub gcd : ℕ → ℕ → ℕ
gcd a b = gcd_in (suc b) a b

-- the greatest numerator and denominator
abbrev pub widest : ℕ
widest = 4294967295

-- in lowest terms the numerator or the denominator is over the widest
unfoldable pub is_out : Distance → Bool
is_out (Fin p q) = not (nat_le (p / gcd p (den q)) widest && nat_le (den q / gcd p (den q)) widest)
is_out Inf = false

-- the fraction in lowest terms
abbrev pub lowest : Distance → Distance
lowest (Fin p q) = Fin (p / gcd p (den q)) (den q / gcd p (den q))
lowest Inf = Inf

-- some fraction whose numerator and denominator are narrow is the same number, or it is infinite
abbrev pub IsNarrow : Distance → Type 0
IsNarrow (Fin p q) = (n : ℕ) × (d : ℕ) × (0 < d) × (n ≤ widest) × (d ≤ widest) × (Fin n d ≈ Fin p q)
IsNarrow Inf = ⊤
