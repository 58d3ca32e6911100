-- Distances as they are answered: in lowest terms, whose numerator and denominator are up to a limit.
use Rattle.std.specs.Prelude.{ℕ, Bool, true, ◌&&◌, ◌||◌, nat_le, not}
use Rattle.fz_ast.specs.Types.{BangT, SumT, TensorT, Ty, WithT}
use Rattle.fz_frac.specs.Distance.{Distance, Fin, Inf}
use Rattle.fz_frac.specs.Lowest.{lowest}
use Rattle.metric_values.specs.Distances.{distance_between}
use Rattle.metric_values.specs.Values.{BangV, InlV, InrV, PairV, Value}

-- 2^63 - 1
abbrev pub greatest_of_63_bits : ℕ
greatest_of_63_bits = 9223372036854775807

abbrev pub fits_63_bits : Distance → Bool
fits_63_bits (Fin p q) = nat_le p greatest_of_63_bits && nat_le q greatest_of_63_bits
fits_63_bits Inf = true

-- in lowest terms the numerator or the denominator is over the greatest of 63 bits
abbrev pub is_too_wide : Distance → Bool
is_too_wide d = not (fits_63_bits (lowest d))

-- the distance of the values, or of some part of them by the type's cases, is wide
abbrev pub some_wide : Ty → Value → Value → Bool
some_wide (TensorT A B) (PairV a b) (PairV c d) = some_wide A a c || some_wide B b d || is_too_wide (distance_between (TensorT A B) (PairV a b) (PairV c d))
some_wide (WithT A B) (PairV a b) (PairV c d) = some_wide A a c || some_wide B b d || is_too_wide (distance_between (WithT A B) (PairV a b) (PairV c d))
some_wide (SumT A B) (InlV a) (InlV b) = some_wide A a b
some_wide (SumT A B) (InrV a) (InrV b) = some_wide B a b
some_wide (BangT r A) (BangV a) (BangV b) = some_wide A a b || is_too_wide (distance_between (BangT r A) (BangV a) (BangV b))
some_wide A v w = is_too_wide (distance_between A v w)
