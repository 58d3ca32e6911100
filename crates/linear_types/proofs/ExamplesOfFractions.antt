-- Which fractions of a derivation are out of range, at worked examples.
use Rattle.std.proofs.Common.{refl}
use Rattle.std.specs.Prelude.{[], false, pos, true, ◌∷◌, ◌≡◌}
use Rattle.fz_ast.specs.Terms.{PlusE, TimesE}
use Rattle.fz_ast.specs.Types.{NumT}
use Rattle.fz_frac.specs.Distance.{Fin, Inf, one}
use Rattle.fz_frac.specs.Lowest.{gcd, gcd_in, is_out}
use Rattle.linear_types.proofs.ExampleTerms.{given, times, var, whole, x}
use Rattle.linear_types.specs.Fractions.{bound_out, compared_out, each_out, is_out_of_range}
use Rattle.linear_types.specs.Inferred.{any_out}
use Rattle.linear_types.specs.Sensitivities.{Sensitivities, plus, scale}
use Rattle.linear_types.specs.Typing.{Typing, here, is_plus, is_times, is_var, size_of}

-- a numerator or denominator in lowest terms is over 2^32 - 1
out_of_range :
    (any_out [] ≡ false)
    × (any_out (one ∷ Fin 4294967295 1 ∷ Inf ∷ []) ≡ false)
    × (any_out (one ∷ Fin 4294967296 1 ∷ []) ≡ true)
    × (any_out (Fin 4294967296 1 ∷ one ∷ []) ≡ true)
    × (any_out (Fin 8589934590 2 ∷ []) ≡ false)
unfolding is_out gcd gcd_in
out_of_range = (refl, refl, refl, refl, refl)

-- the products, or their sums
of_bound_names :
    (bound_out [] (Fin 2 1) (Fin 2147483647 1 ∷ []) ≡ false)
    × (bound_out [] (Fin 2 1) (Fin 2147483648 1 ∷ []) ≡ true)
    × (bound_out (one ∷ []) (Fin 2 1) (Fin 2147483647 1 ∷ []) ≡ false)
    × (bound_out (Fin 2 1 ∷ []) (Fin 2 1) (Fin 2147483647 1 ∷ []) ≡ true)
    × (compared_out (Fin 4294967295 1 ∷ []) (Fin 4294967295 1 ∷ []) ≡ false)
    × (each_out (Fin 4294967295 1 ∷ []) (Fin 4294967295 1 ∷ []) ≡ false)
unfolding is_out gcd gcd_in
of_bound_names = (refl, refl, refl, refl, refl, refl)

-- k * x + x
abbrev more_than : Sensitivities → Sensitivities
more_than D = plus D (one ∷ [])

within : Typing (given NumT) (whole (PlusE (times 1 4294967294 x) (var 2 x))) NumT (more_than (scale (size_of (pos 4294967294)) (one ∷ [])))
within = is_plus (is_times (is_var (here refl))) (is_var (here refl))

beyond : Typing (given NumT) (whole (PlusE (times 1 4294967295 x) (var 2 x))) NumT (more_than (scale (size_of (pos 4294967295)) (one ∷ [])))
beyond = is_plus (is_times (is_var (here refl))) (is_var (here refl))

of_a_sum : (is_out_of_range within ≡ false) × (is_out_of_range beyond ≡ true)
unfolding is_out gcd gcd_in within beyond
of_a_sum = (refl, refl)

-- a part's fraction is the whole's
inside : Typing (given NumT) (whole (TimesE (pos 0) (times 1 4294967296 x))) NumT (scale (size_of (pos 0)) (scale (size_of (pos 4294967296)) (one ∷ [])))
inside = is_times (is_times (is_var (here refl)))

of_a_part : is_out_of_range inside ≡ true
unfolding is_out gcd gcd_in inside
of_a_part = refl
