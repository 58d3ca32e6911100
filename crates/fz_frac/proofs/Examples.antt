-- The definitions at a few numbers.
use Rattle.std.proofs.Common.{◌≡◌, ℕ, zero, suc, ◌<◌, ◌≤◌, refl, true, false, arith}
use Rattle.std.specs.Prelude.{Some, None}
use Rattle.fz_frac.specs.Distance.{Fin, Inf, ◌⊑◌, ◌≈◌, is_le, none, one, add, mul, greater, quotient, ceil_times}
use Rattle.fz_frac.specs.Lowest.{gcd_in, gcd, widest, is_out, lowest, IsNarrow}
use Rattle.fz_frac.proofs.Lowest.{narrow}
use Rattle.fz_frac.specs.Sens.{IsDivisor}
use Rattle.fz_frac.specs.declared.frac.Frac.{Frac}
use Rattle.fz_frac.specs.declared.sens.Sens.TheVariants.{Finite, Inf as Endless}

half_and_third : add (Fin 1 2) (Fin 1 3) ≡ Fin 5 6
half_and_third = refl

nothing_of_endless : mul none Inf ≡ none
nothing_of_endless = refl

something_of_endless : mul Inf (Fin 1 4294967295) ≡ Inf
something_of_endless = refl

endless_and_none : add Inf none ≡ Inf
endless_and_none = refl

third_below_half : is_le (Fin 1 3) (Fin 1 2) ≡ true
third_below_half = refl

same_both_ways : is_le (Fin 2 4) (Fin 1 2) ≡ true
same_both_ways = refl

endless_above : is_le Inf (Fin 4294967295 1) ≡ false
endless_above = refl

greater_of_two : greater (Fin 1 3) (Fin 1 2) ≡ Fin 1 2
greater_of_two = refl

half_over_third : quotient (Fin 1 2) (Fin 1 3) ≡ Fin 3 2
half_over_third = refl

three_halves_up : ceil_times (Fin 3 2) 1 ≡ Some 2
three_halves_up = refl

three_halves_twice : ceil_times (Fin 3 2) 2 ≡ Some 3
three_halves_twice = refl

no_ceiling : ceil_times Inf 1 ≡ None
no_ceiling = refl

divisor_of_12_18 : gcd 12 18 ≡ 6
unfolding gcd gcd_in
divisor_of_12_18 = refl

reduced_fits : is_out (Fin 8589934590 2) ≡ false
unfolding is_out gcd gcd_in
reduced_fits = refl

widest_fits : is_out (Fin 4294967295 1) ≡ false
unfolding is_out gcd gcd_in
widest_fits = refl

next_is_out : is_out (Fin 4294967296 1) ≡ true
unfolding is_out gcd gcd_in
next_is_out = refl

-- Sums and products by numerators and denominators; nothing and infinity.
endless_behind : add none Inf ≡ Inf
endless_behind = refl

two_thirds_of_three_quarters : mul (Fin 2 3) (Fin 3 4) ≡ Fin 6 12
two_thirds_of_three_quarters = refl

endless_of_nothing : mul Inf none ≡ none
endless_of_nothing = refl

half_of_endless : mul (Fin 1 2) Inf ≡ Inf
half_of_endless = refl

endless_of_endless : mul Inf Inf ≡ Inf
endless_of_endless = refl

-- A denominator 0 counts as 1.
over_nothing : add (Fin 2 0) (Fin 1 3) ≡ Fin 7 3
over_nothing = refl

-- The order, on both sides and at equals.
half_above_third : is_le (Fin 1 2) (Fin 1 3) ≡ false
half_above_third = refl

below_endless : is_le (Fin 4294967295 1) Inf ≡ true
below_endless = refl

endless_and_endless : is_le Inf Inf ≡ true
endless_and_endless = refl

-- 2/4 is 1/2 and isn't 1/3, and infinity is no fraction.
same_number : Fin 2 4 ≈ Fin 1 2
same_number = record { le = record { le = omega arith }; ge = record { le = omega arith } }

another_number : Fin 2 4 ≈ Fin 1 3 → ⊥
another_number same = omega (arith, same.le.le)

no_fraction : Inf ⊑ Fin 4294967295 1 → ⊥
no_fraction at_most = at_most.le

greater_of_equals : greater (Fin 2 4) (Fin 1 2) ≡ Fin 1 2
greater_of_equals = refl

greater_first : greater (Fin 1 2) (Fin 1 3) ≡ Fin 1 2
greater_first = refl

greater_endless : greater Inf (Fin 1 2) ≡ Inf
greater_endless = refl

-- Quotients: infinity over a number, and a number over infinity, which is 0 for 0 and else 1.
endless_over_two : quotient Inf (Fin 2 1) ≡ Inf
endless_over_two = refl

none_over_endless : quotient none Inf ≡ none
none_over_endless = refl

some_over_endless : quotient (Fin 1 4294967295) Inf ≡ one
some_over_endless = refl

endless_over_endless : quotient Inf Inf ≡ one
endless_over_endless = refl

-- Rounding up stays at a whole number, and goes on just above one.
exactly_one : ceil_times (Fin 1 3) 3 ≡ Some 1
exactly_one = refl

above_one : ceil_times (Fin 1 3) 4 ≡ Some 2
above_one = refl

nothing_up : ceil_times none 1000000000 ≡ Some 0
nothing_up = refl

smallest_up : ceil_times (Fin 1 4294967295) 1 ≡ Some 1
smallest_up = refl

greatest_up : ceil_times (Fin 4294967295 1) 1000000000 ≡ Some 4294967295000000000
greatest_up = refl

-- Lowest terms.
divisor_of_nothing : gcd 0 5 ≡ 5
unfolding gcd gcd_in
divisor_of_nothing = refl

divisor_with_nothing : gcd 5 0 ≡ 5
unfolding gcd gcd_in
divisor_with_nothing = refl

no_common_divisor : gcd 9 4 ≡ 1
unfolding gcd gcd_in
no_common_divisor = refl

lowest_of_two_quarters : lowest (Fin 2 4) ≡ Fin 1 2
unfolding gcd gcd_in
lowest_of_two_quarters = refl

lowest_of_nothing : lowest (Fin 0 7) ≡ none
unfolding gcd gcd_in
lowest_of_nothing = refl

lowest_of_endless : lowest Inf ≡ Inf
lowest_of_endless = refl

-- A denominator is in range up to 2^32 - 1, in lowest terms.
narrow_denominator : is_out (Fin 2 8589934590) ≡ false
narrow_denominator = narrow 2 8589934590 1 4294967295 (omega arith) refl (omega arith) (omega arith)

nothing_is_narrow : is_out (Fin 0 4294967296) ≡ false
nothing_is_narrow = narrow 0 4294967296 0 1 (omega arith) refl (omega arith) (omega arith)

wide_denominator : (n d : ℕ) → 0 < d → d ≤ widest → Fin n d ≈ Fin 1 4294967296 → ⊥
wide_denominator n zero above most same = omega (arith, above)
wide_denominator zero (suc d) above most same = omega (arith, same.ge.le)
wide_denominator (suc n) (suc d) above most same = omega (arith, same.le.le)

endless_is_in_range : is_out Inf ≡ false
unfolding is_out
endless_is_in_range = refl

widest_is_narrow : IsNarrow (Fin 8589934590 2)
widest_is_narrow = (4294967295, 1, omega arith, omega arith, omega arith, record { le = record { le = omega arith }; ge = record { le = omega arith } })

-- What divides is finite and above 0.
no_divisor : (f : Frac) → f.p ≡ 0 → IsDivisor (Finite f) → ⊥
no_divisor f is above = omega (arith, is, above)

a_divisor : (f : Frac) → f.p ≡ 1 → IsDivisor (Finite f)
a_divisor f is = omega (arith, is)

endless_divides_nothing : IsDivisor Endless → ⊥
endless_divides_nothing divides = divides
