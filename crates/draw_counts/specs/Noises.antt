-- How many lists of draws give which noise.
use Rattle.std.specs.Prelude.{ℕ, ◌^◌, ◌==◌, Bool, false, Option, Some, None, is_none, ℤ, pos, negsuc}
use Rattle.discrete_laplace.specs.Noise.{noise_of}
use Rattle.draw_counts.specs.Counts.{lists_passing}

-- there is a noise, and it passes
abbrev pub noise_passes : (ℤ → Bool) → Option ℤ → Bool
noise_passes test None = false
noise_passes test (Some noise) = test noise

-- how many lists of n draws give a noise of scale t/s that passes
abbrev pub noise_lists : (t s n : ℕ) → (ℤ → Bool) → ℕ
noise_lists t s n test = lists_passing (2 ^ 64) n (λ draws. noise_passes test (noise_of t s draws))

-- how many lists of n draws give none: the draws don't suffice
abbrev pub exhausted_lists : (t s n : ℕ) → ℕ
exhausted_lists t s n = lists_passing (2 ^ 64) n (λ draws. is_none (noise_of t s draws))

-- a noise is k
abbrev pub is_noise : ℕ → ℤ → Bool
is_noise k (pos noise) = noise == k
is_noise k (negsuc noise) = false
