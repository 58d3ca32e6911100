-- Differential privacy of a value to which noise is added, as its field defines it, in counts of lists of draws. Two neighbours
-- are two values x and y, which a program gives for two sets of data.
use Rattle.std.specs.Prelude.{ℕ, zero, suc, ◌+◌, ◌*◌, ◌^◌, ◌≤◌, Bool, List, Option, Some, None, ℤ, ◌+ℤ◌, ◌-ℤ◌, unsigned_abs}
use Rattle.exact_bernoulli.specs.Meter.{draw_limit}
use Rattle.discrete_laplace.specs.Noise.{noise_of}
use Rattle.draw_counts.specs.Counts.{lists_passing}

-- 1 + a/b + (a/b)^2/2! + .. + (a/b)^n/n!, as a fraction
unfoldable pub exp_top : (a b n : ℕ) → ℕ
exp_top a b zero = 1
exp_top a b (suc n) = exp_top a b n * (b * suc n) + a ^ suc n

unfoldable pub exp_bottom : (b n : ℕ) → ℕ
exp_bottom b zero = 1
exp_bottom b (suc n) = exp_bottom b n * (b * suc n)

-- p/q is at least e^(a/b): none of these sums is more
abbrev pub AtLeastExp : (a b p q : ℕ) → Type 0
AtLeastExp a b p q = (n : ℕ) → q * exp_top a b n ≤ p * exp_bottom b n

-- The answer about a value: the value and the noise, or no answer where the draws give no noise.
abbrev pub answered : ℤ → Option ℤ → Option ℤ
answered value None = None
answered value (Some noise) = Some (value +ℤ noise)

-- how many lists of n draws below `words` give an answer of the set
abbrev pub answer_lists : (words n : ℕ) → (noise : List ℕ → Option ℤ) → (value : ℤ) → (set : Option ℤ → Bool) → ℕ
answer_lists words n noise value set = lists_passing words n (λ draws. set (answered value (noise draws)))

-- An answer of the set is had from x with a chance of at most p/q times that from y, and 1/share:
-- P[x + noise in set] <= p/q * P[y + noise in set] + 1/share.
abbrev pub IsAlmostAsLikely : (words n share : ℕ) → (noise : List ℕ → Option ℤ) → (p q : ℕ) → (x y : ℤ) → (set : Option ℤ → Bool) → Type 0
IsAlmostAsLikely words n share noise p q x y set =
    share * (q * answer_lists words n noise x set) ≤ share * (p * answer_lists words n noise y set) + q * words ^ n

-- Answers with noise of scale t/s are (epsilon, 2^-128)-differentially private, for values that are no more than
-- 100 * t/s apart, where epsilon is s/t times how far the values are apart: whatever set of answers is asked for.
abbrev pub IsPrivate : (t s : ℕ) → Type 0
IsPrivate t s = (x y : ℤ) (set : Option ℤ → Bool) (p q : ℕ) → unsigned_abs (x -ℤ y) * s ≤ 100 * t → AtLeastExp (unsigned_abs (x -ℤ y) * s) t p q →
    IsAlmostAsLikely (2 ^ 64) draw_limit (2 ^ 128) (noise_of t s) p q x y set
