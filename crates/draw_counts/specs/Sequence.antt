-- A sequence of answers about the same data, where what is asked next may hang on the answers before.
use Rattle.std.specs.Prelude.{ℕ, zero, suc, ◌-◌, ◌+◌, ◌*◌, ◌^◌, ◌<◌, ◌≤◌, Bool, cond, List, [], ◌∷◌, ◌++◌, Option, ℤ, ◌-ℤ◌, unsigned_abs, ⊤}
use Rattle.exact_bernoulli.specs.Meter.{draw_limit}
use Rattle.discrete_laplace.specs.Noise.{noise_of}
use Rattle.draw_counts.specs.Counts.{sum_below}
use Rattle.draw_counts.specs.Privacy.{AtLeastExp, answered}

-- the sum of f over all lists of n draws below `words`
unfoldable pub sum_lists : (words n : ℕ) → (List ℕ → ℕ) → ℕ
sum_lists words zero f = f []
sum_lists words (suc n) f = sum_below (λ w. sum_lists words n (λ rest. f (w ∷ rest))) words

-- How many ways there are to draw a list of n draws for each of so many asks, such that these lists pass. There are
-- (words ^ n) ^ asks ways in all.
unfoldable pub draws_passing : (words n asks : ℕ) → (List (List ℕ) → Bool) → ℕ
draws_passing words n zero test = cond (test []) 1 0
draws_passing words n (suc asks) test = sum_lists words n (λ draws. draws_passing words n asks (λ rest. test (draws ∷ rest)))

-- the answers so far: of each ask a number, or none where its draws gave no noise
abbrev pub Answers : Type 0
Answers = List (Option ℤ)

-- The answers in the end, where each ask has its own list of draws. By the answers before, an analyst chooses EPS of the next
-- ask and what is asked, and `value` is what the data gives for it.
unfoldable pub answered_by : (eps : Answers → ℕ) → (value : Answers → ℤ) → (before : Answers) → List (List ℕ) → Answers
answered_by eps value before [] = before
answered_by eps value before (draws ∷ rest) = answered_by eps value (before ++ answered (value before) (noise_of 1 (eps before) draws) ∷ []) rest

-- What the next ask costs: EPS times how far apart the values are that two sets of data give.
abbrev pub cost : (eps : Answers → ℕ) → (x y : Answers → ℤ) → Answers → ℕ
cost eps x y before = unsigned_abs (x before -ℤ y before) * eps before

-- Whatever the answers are, so many asks cost at most `total`, and none costs more than 100.
unfoldable pub CostAtMost : (eps : Answers → ℕ) → (x y : Answers → ℤ) → (asks total : ℕ) → (before : Answers) → Type 0
CostAtMost eps x y zero total before = ⊤
CostAtMost eps x y (suc asks) total before =
    (0 < eps before) × (cost eps x y before ≤ 100) × (cost eps x y before ≤ total) ×
    ((answer : Option ℤ) → CostAtMost eps x y asks (total - cost eps x y before) (before ++ answer ∷ []))

-- All answers together are (total, asks * 2^-128)-differentially private, for two sets of data and any set of answers:
-- P[answers of x in set] <= (p/q)^total * P[answers of y in set] + asks/2^128, for each p/q from e on.
abbrev pub SequenceIsPrivate : Type 0
SequenceIsPrivate = (eps : Answers → ℕ) (x y : Answers → ℤ) (asks total : ℕ) → CostAtMost eps x y asks total [] →
    (p q : ℕ) → AtLeastExp 1 1 p q → (set : Answers → Bool) →
    2 ^ 128 * (q ^ total * draws_passing (2 ^ 64) draw_limit asks (λ draws. set (answered_by eps x [] draws)))
    ≤ 2 ^ 128 * (p ^ total * draws_passing (2 ^ 64) draw_limit asks (λ draws. set (answered_by eps y [] draws)))
    + asks * (q ^ total * ((2 ^ 64) ^ draw_limit) ^ asks)
