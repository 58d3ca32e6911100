-- The sampler of discrete Laplace noise of scale t/s, as segments of a list of draws.
use Rattle.std.specs.Prelude.{◌≡◌, ℕ, zero, suc, ◌+◌, ◌*◌, ◌/◌, Bool, true, false, List, ◌++◌, take, length, Option, Some, None, ℤ, pos, neg_ℤ, ◌⊎◌}
use Rattle.exact_bernoulli.specs.Meter.{draw_limit}
use Rattle.exact_bernoulli.specs.ExactBernoulli.{IsUniform, IsBernoulli, IsSegmentRun, IsBernoulliExp}

-- A size with its sign. Minus zero is rejected, since zero would come twice as often otherwise.
abbrev pub signed_size : (negative : Bool) → ℕ → Option ℤ
signed_size true zero = None
signed_size true (suc size) = Some (neg_ℤ (pos (suc size)))
signed_size false size = Some (pos size)

-- An attempt that stops early: u below t, and a zero of exp(-u/t).
pub record IsStopped (t : ℕ) (draws : List ℕ) : Type 0 where
  pub first : List ℕ
  pub second : List ℕ
  pub cut : draws ≡ first ++ second
  pub u : ℕ
  pub uniform : IsUniform t first u
  pub rejected : IsBernoulliExp u t second false

-- How many ones of probability exp(-1) come before the first zero.
abbrev pub IsGeometric : List ℕ → ℕ → Type 0
IsGeometric draws ones = IsSegmentRun (λ _. IsBernoulliExp 1 1) true false 0 ones draws

-- A whole attempt: u below t, a one of exp(-u/t), v ones and a zero of exp(-1), and a sign.
pub record IsWhole (t s : ℕ) (draws : List ℕ) (outcome : Option ℤ) : Type 0 where
  pub first : List ℕ
  pub second : List ℕ
  pub third : List ℕ
  pub fourth : List ℕ
  pub cut : draws ≡ first ++ (second ++ (third ++ fourth))
  pub u : ℕ
  pub uniform : IsUniform t first u
  pub accepted : IsBernoulliExp u t second true
  pub v : ℕ
  pub geometric : IsGeometric third v
  pub negative : Bool
  pub sign : IsBernoulli 1 2 fourth negative
  pub gives : outcome ≡ signed_size negative ((u + t * v) / s)

-- An attempt: a number, or None where it is rejected.
abbrev pub IsAttempt : (t s : ℕ) → List ℕ → Option ℤ → Type 0
IsAttempt t s draws outcome = (IsStopped t draws × (outcome ≡ None)) ⊎ IsWhole t s draws outcome

-- A sample: rejected attempts, and then one that gives the noise.
pub record IsSample (t s : ℕ) (draws : List ℕ) (noise : ℤ) : Type 0 where
  pub rejected : ℕ
  pub attempts : IsSegmentRun (λ _. IsAttempt t s) None (Some noise) 0 rejected draws

-- The noise out of these draws: a sample stands in front of those that it may take, and takes so many.
pub record IsNoise (t s : ℕ) (draws : List ℕ) (noise : ℤ) (taken : ℕ) : Type 0 where
  pub segment : List ℕ
  pub rest : List ℕ
  pub cut : take draw_limit draws ≡ segment ++ rest
  pub as_many : length segment ≡ taken
  pub sample : IsSample t s segment noise
