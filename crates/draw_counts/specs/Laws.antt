-- The laws, as statements.
use Rattle.std.specs.Prelude.{◌≡◌, suc, ◌<◌, ◌≤◌, ◌*◌, ◌^◌, ◌==◌, ℕ, Bool, true, List, ℤ, neg_ℤ}
use Rattle.exact_bernoulli.specs.Readers.{read_uniform, read_bernoulli}
use Rattle.exact_bernoulli.specs.Meter.{draw_limit}
use Rattle.draw_counts.specs.Counts.{lists_passing, read_passes, kept_lists, passing_below}
use Rattle.draw_counts.specs.Noises.{noise_lists, exhausted_lists, is_noise}
use Rattle.draw_counts.specs.Privacy.{IsPrivate}

-- A uniform number below m passes a test on so many equal shares of the lists as there are numbers below m that pass,
-- whatever is asked of the draws after it.
abbrev pub UniformIsCounted : Type 0
UniformIsCounted = (m n : ℕ) (test : ℕ → Bool) (later : List ℕ → Bool) →
    lists_passing (2 ^ 64) n (read_passes (read_uniform m) test later) ≡ passing_below test m * kept_lists m later n

-- each number below m comes from equally many lists
abbrev pub UniformIsEven : Type 0
UniformIsEven = (m n a b : ℕ) (later : List ℕ → Bool) → a < m → b < m →
    lists_passing (2 ^ 64) n (read_passes (read_uniform m) (λ x. x == a) later)
    ≡ lists_passing (2 ^ 64) n (read_passes (read_uniform m) (λ x. x == b) later)

-- of the lists that give a trial of n/d a result, exactly n/d give a one
abbrev pub TrialsAreExact : Type 0
TrialsAreExact = (n d k : ℕ) (later : List ℕ → Bool) → n ≤ d →
    d * lists_passing (2 ^ 64) k (read_passes (read_bernoulli n d) (λ one. one) later)
    ≡ n * lists_passing (2 ^ 64) k (read_passes (read_bernoulli n d) (λ one. true) later)

-- a test of a noise passes on as many lists as the same test of its opposite, with the limit of draws
abbrev pub NoiseIsSymmetric : Type 0
NoiseIsSymmetric = (t s n : ℕ) (test : ℤ → Bool) → n ≤ draw_limit → noise_lists t s n test ≡ noise_lists t s n (λ noise. test (neg_ℤ noise))

-- A noise k + 1 comes from no more lists than k, from 0 on, at any scale with t up to 10^6, with the limit of draws.
abbrev pub LargerNoiseIsRarer : Type 0
LargerNoiseIsRarer = (t s k n : ℕ) → 0 < t → t ≤ 1000000 → 0 < s → n ≤ draw_limit → noise_lists t s n (is_noise (suc k)) ≤ noise_lists t s n (is_noise k)

-- Of the lists of as many draws as a noise may take, fewer than one in 2^200 give none, at any scale with t up to 10^6.
abbrev pub ExhaustionIsRare : Type 0
ExhaustionIsRare = (t s : ℕ) → 0 < t → t ≤ 1000000 → 2 ^ 200 * exhausted_lists t s draw_limit < (2 ^ 64) ^ draw_limit

-- at EPS 1, 2, 3, .. the noise, of scale 1/EPS, hides what it is added to
abbrev pub WholeEpsIsPrivate : Type 0
WholeEpsIsPrivate = (eps : ℕ) → 0 < eps → IsPrivate 1 eps
