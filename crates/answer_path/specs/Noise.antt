-- The noise of a number.
use Rattle.std.specs.Prelude.{ℕ, ◌/◌, ℤ, Option}
use Rattle.fz_frac.specs.Lowest.{gcd}
use Rattle.fz_outside.specs.Draws.{first_draws}
use Rattle.exact_bernoulli.specs.Meter.{draw_limit}
use Rattle.discrete_laplace.specs.Noise.{noise_of}

-- one unit of epsilon, in millionths
abbrev pub one_epsilon : ℕ
one_epsilon = 1000000

-- The noise has scale 10^6/e, in lowest terms: its numerator ..
unfoldable pub scale_numerator : ℕ → ℕ
scale_numerator e = one_epsilon / gcd one_epsilon e

-- .. and its denominator.
unfoldable pub scale_denominator : ℕ → ℕ
scale_denominator e = e / gcd one_epsilon e

-- the noise at this epsilon out of these draws, or None where a number's draws don't suffice
unfoldable pub noise_at : (e : ℕ) → (ℕ → ℕ) → Option ℤ
noise_at e draws = noise_of (scale_numerator e) (scale_denominator e) (first_draws draw_limit draws)
