-- Worked examples of sequences of answers, computed.
use Rattle.std.proofs.Common.{◌≡◌, refl, ℕ, Bool, true, false, List, [], ◌∷◌, Some, None, arith}
use Rattle.std.specs.Prelude.{cond, ◌==◌, ◌&&◌, ℤ, pos, negsuc, int_le}
use Rattle.exact_bernoulli.specs.Meter.{draw_limit}
use Rattle.exact_bernoulli.specs.Readers.{read_bernoulli_exp, read_run, read_bernoulli, read_uniform}
use Rattle.discrete_laplace.specs.Readers.{read_sample, read_attempt, read_geometric}
use Rattle.discrete_laplace.specs.Noise.{noise_of}
use Rattle.draw_counts.specs.Counts.{sum_below}
use Rattle.draw_counts.specs.Sequence.{sum_lists, draws_passing, Answers, answered_by, cost, CostAtMost}

first_of : List ℕ → ℕ
first_of [] = 5
first_of (w ∷ rest) = w

-- the first draws below 3 add up to 0 + 1 + 2, and three times that where there is a second draw
sums_over : (sum_lists 3 0 first_of ≡ 5) × (sum_lists 3 1 first_of ≡ 3) × (sum_lists 3 2 first_of ≡ 9)
unfolding sum_lists sum_below first_of
sums_over = (refl, refl, refl)

-- both asks have the same draws
alike : List (List ℕ) → Bool
alike ((a ∷ []) ∷ (b ∷ []) ∷ []) = a == b
alike _ = false

-- of two asks with a draw below 3 each there are 9 ways to draw, and 3 in which the draws are the same; of none there is one
ways : (draws_passing 3 1 2 (λ _. true) ≡ 9) × (draws_passing 3 1 2 alike ≡ 3) × (draws_passing 3 1 1 alike ≡ 0) × (draws_passing 3 2 2 (λ _. true) ≡ 81) × (draws_passing 3 1 0 (λ _. true) ≡ 1)
unfolding draws_passing sum_lists sum_below alike
ways = (refl, refl, refl, refl, refl)

-- the data gives 5 at first, and then 7 where the answer was 5, and 9 where it was not
value : Answers → ℤ
value [] = pos 5
value (None ∷ rest) = pos 9
value (Some noisy ∷ rest) = cond (int_le noisy (pos 5) && int_le (pos 5) noisy) (pos 7) (pos 9)

eps_one : Answers → ℕ
eps_one before = 1

-- noise 0 and noise -1, at EPS 1, and too few draws
zero_noise : List ℕ
zero_noise = 7 ∷ 7 ∷ 7 ∷ 1 ∷ 1 ∷ []

minus_one : List ℕ
minus_one = 0 ∷ 0 ∷ 0 ∷ 0 ∷ 1 ∷ 0 ∷ 1 ∷ 0 ∷ []

too_few : List ℕ
too_few = 7 ∷ 7 ∷ 7 ∷ 1 ∷ []

-- the first answer decides what is asked next
both_answered : answered_by eps_one value [] (zero_noise ∷ minus_one ∷ []) ≡ Some (pos 5) ∷ Some (pos 6) ∷ []
unfolding answered_by value eps_one zero_noise minus_one noise_of draw_limit read_sample read_attempt read_geometric read_bernoulli_exp read_run read_bernoulli read_uniform
both_answered = refl

other_first : answered_by eps_one value [] (minus_one ∷ zero_noise ∷ []) ≡ Some (pos 4) ∷ Some (pos 9) ∷ []
unfolding answered_by value eps_one zero_noise minus_one noise_of draw_limit read_sample read_attempt read_geometric read_bernoulli_exp read_run read_bernoulli read_uniform
other_first = refl

none_answered : answered_by eps_one value [] (too_few ∷ zero_noise ∷ []) ≡ None ∷ Some (pos 9) ∷ []
unfolding answered_by value eps_one zero_noise too_few noise_of draw_limit read_sample read_attempt read_geometric read_bernoulli_exp read_run read_bernoulli read_uniform
none_answered = refl

at_zero : Answers → ℤ
at_zero before = pos 0

at_one : Answers → ℤ
at_one before = pos 1

far_off : Answers → ℤ
far_off before = negsuc 100

costs : (cost eps_one at_zero at_one [] ≡ 1) × (cost eps_one at_one at_zero [] ≡ 1) × (cost eps_one at_zero far_off [] ≡ 101) × (cost (λ _. 3) at_one far_off [] ≡ 306)
unfolding eps_one at_zero at_one far_off
costs = (refl, refl, refl, refl)

-- three asks about values one apart cost 3, and no less
three_cost : CostAtMost eps_one at_zero at_one 3 3 []
unfolding CostAtMost eps_one at_zero at_one
three_cost = (omega arith, omega arith, omega arith, λ a. (omega arith, omega arith, omega arith, λ b. (omega arith, omega arith, omega arith, λ c. tt)))

not_two : ¬ CostAtMost eps_one at_zero at_one 3 2 []
unfolding CostAtMost eps_one at_zero at_one
not_two h = let a = (((h.3 None).3 None)).2 in omega (arith, a)

-- no answer costs more than 100, and EPS is at least 1
not_at_once : ¬ CostAtMost eps_one at_zero far_off 1 1000 []
unfolding CostAtMost eps_one at_zero far_off
not_at_once h = let a = h.1 in omega (arith, a)

not_at_nothing : ¬ CostAtMost (λ _. 0) at_zero at_one 1 1000 []
unfolding CostAtMost
not_at_nothing h = let a = h.0 in omega (arith, a)
