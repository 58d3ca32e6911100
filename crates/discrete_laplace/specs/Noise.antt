-- The noise out of a list of draws. It is computed by the readers, and proved to be that of the segments.
use Rattle.std.specs.Prelude.{ℕ, ◌-◌, List, [], take, length, Option, Some, None, ℤ}
use Rattle.exact_bernoulli.specs.Meter.{draw_limit}
use Rattle.discrete_laplace.specs.Readers.{read_sample}

abbrev pub noise_in : Option (ℤ × List ℕ) → Option ℤ
noise_in None = None
noise_in (Some found) = Some found.0

abbrev pub left_in : Option (ℤ × List ℕ) → List ℕ
left_in None = []
left_in (Some found) = found.1

-- The noise of scale t/s out of these draws, or None where the draws that one number may take don't suffice.
unfoldable pub noise_of : (t s : ℕ) → List ℕ → Option ℤ
noise_of t s draws = noise_in (read_sample t s (take draw_limit draws))

-- How many of these draws are taken for it: all that it may take, where they don't suffice.
unfoldable pub draws_taken : (t s : ℕ) → List ℕ → ℕ
draws_taken t s draws = length (take draw_limit draws) - length (left_in (read_sample t s (take draw_limit draws)))
