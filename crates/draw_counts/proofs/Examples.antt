-- Worked examples, computed: right and wrong toy samplers, whose draws are below 4 or 8.
use Rattle.std.proofs.Common.{◌≡◌, refl, ℕ, zero, suc, ◌+◌, ◌*◌, ◌%◌, ◌≤◌, Bool, true, false, List, [], ◌∷◌, Option, Some, None, arith}
use Rattle.std.proofs.Math.Nat.{pow-succ', mul-le-mul_right}
use Rattle.std.specs.Prelude.{◌^◌, ◌==◌, ◌&&◌, nat_lt, cond, ℤ, pos, negsuc, neg_ℤ, int_le}
use Rattle.discrete_laplace.specs.DiscreteLaplace.{signed_size}
use Rattle.draw_counts.specs.Counts.{sum_below, passing_below, lists_passing, found_passes, kept_lists}
use Rattle.draw_counts.specs.Noises.{noise_passes, is_noise}
use Rattle.draw_counts.specs.Privacy.{exp_top, exp_bottom, AtLeastExp, answered, IsAlmostAsLikely}

sums : (sum_below (λ i. i) 0 ≡ 0) × (sum_below (λ i. i) 4 ≡ 6) × (passing_below (λ i. nat_lt i 2) 5 ≡ 2) × (passing_below (λ i. nat_lt i 2) 1 ≡ 1) × (passing_below (λ _. true) 0 ≡ 0)
unfolding sum_below
sums = (refl, refl, refl, refl, refl)

-- there is one list of no draws; of the 9 lists of two draws below 3 there are 3 whose draws are alike
alike : List ℕ → Bool
alike (a ∷ b ∷ []) = a == b
alike _ = false

lists : (lists_passing 3 0 (λ _. true) ≡ 1) × (lists_passing 3 0 (λ _. false) ≡ 0) × (lists_passing 3 2 (λ _. true) ≡ 9) × (lists_passing 3 2 alike ≡ 3) × (lists_passing 3 3 alike ≡ 0)
unfolding lists_passing sum_below alike
lists = (refl, refl, refl, refl, refl)

found : (found_passes (λ a. a == 5) (λ _. true) (Some (5, [])) ≡ true) × (found_passes (λ a. a == 5) (λ _. true) (Some (6, [])) ≡ false) × (found_passes (λ a. a == 5) (λ _. false) (Some (5, [])) ≡ false) × (found_passes {A = ℕ} (λ _. true) (λ _. true) None ≡ false)
found = (refl, refl, refl, refl)

-- of one draw 6148914691236517205 give a number below 3, and of two as many more for each first draw, but for the one that is rejected
kept : (kept_lists 3 (λ _. true) 0 ≡ 0) × (kept_lists 3 (λ _. true) 1 ≡ 6148914691236517205) × (kept_lists 2 (λ _. true) 1 ≡ 9223372036854775808)
unfolding kept_lists lists_passing
kept = (refl, refl, refl)

-- A toy's uniform number below 3, of draws below 4: a draw is kept below a limit, which is 3 where it is right.
toy_uniform : (limit m : ℕ) → List ℕ → Option (ℕ × List ℕ)
toy_uniform limit m [] = None
toy_uniform limit m (w ∷ draws) = elim (nat_lt w limit) [ true ↦ Some (w % m, draws) | false ↦ toy_uniform limit m draws ]

toy_gives : (limit a : ℕ) → List ℕ → Bool
toy_gives limit a draws = found_passes (λ x. x == a) (λ _. true) (toy_uniform limit 3 draws)

right_limit : (lists_passing 4 3 (toy_gives 3 0) ≡ 21) × (lists_passing 4 3 (toy_gives 3 1) ≡ 21) × (lists_passing 4 3 (toy_gives 3 2) ≡ 21)
unfolding lists_passing sum_below toy_gives toy_uniform
right_limit = (refl, refl, refl)

-- with a limit one too high 0 comes twice as often, and with one too low 2 never comes
limit_too_high : (lists_passing 4 3 (toy_gives 4 0) ≡ 32) × (lists_passing 4 3 (toy_gives 4 1) ≡ 16)
unfolding lists_passing sum_below toy_gives toy_uniform
limit_too_high = (refl, refl)

limit_too_low : (lists_passing 4 3 (toy_gives 2 1) ≡ 28) × (lists_passing 4 3 (toy_gives 2 2) ≡ 0)
unfolding lists_passing sum_below toy_gives toy_uniform
limit_too_low = (refl, refl)

-- A toy's noise, of draws below 8: a draw gives the size, 0, 1, 2 or none (by 4, 2, 1 and 1 of them), and the next one the sign.
toy_size : ℕ → Option ℕ
toy_size w = cond (nat_lt w 4) (Some 0) (cond (nat_lt w 6) (Some 1) (cond (nat_lt w 7) (Some 2) None))

toy_sign : (negative : Bool) → Option ℕ → Option ℤ
toy_sign negative None = None
toy_sign negative (Some size) = signed_size negative size

toy_noise : List ℕ → Option ℤ
toy_noise (a ∷ b ∷ draws) = toy_sign (nat_lt b 4) (toy_size a)
toy_noise _ = None

-- one that takes the sign from the draw that gave the size
sign_read_twice : List ℕ → Option ℤ
sign_read_twice (a ∷ b ∷ draws) = toy_sign (nat_lt a 4) (toy_size a)
sign_read_twice _ = None

toy_count : (List ℕ → Option ℤ) → ℤ → ℕ
toy_count noise z = lists_passing 8 2 (λ draws. noise_passes (λ x. int_le x z && int_le z x) (noise draws))

right_sign : (toy_count toy_noise (pos 1) ≡ 8) × (toy_count toy_noise (negsuc 0) ≡ 8) × (toy_count toy_noise (pos 0) ≡ 16)
unfolding toy_count lists_passing sum_below toy_noise toy_sign toy_size
right_sign = (refl, refl, refl)

one_sign : (toy_count sign_read_twice (pos 1) ≡ 16) × (toy_count sign_read_twice (negsuc 0) ≡ 0)
unfolding toy_count lists_passing sum_below sign_read_twice toy_sign toy_size
one_sign = (refl, refl)

-- 1 + 1 + 1/2 + 1/6 + 1/24 is 65/24, and 1 + 1/2 + 1/8 is 13/8
sums_of_exp : (exp_top 1 1 0 ≡ 1) × (exp_bottom 1 0 ≡ 1) × (exp_top 1 1 4 ≡ 65) × (exp_bottom 1 4 ≡ 24) × (exp_top 1 2 2 ≡ 13) × (exp_bottom 2 2 ≡ 8)
unfolding exp_top exp_bottom
sums_of_exp = (refl, refl, refl, refl, refl, refl)

-- 1 is e^0; 3 is more than e, and 27/10 is less
one_is_exp : AtLeastExp 0 1 1 1
unfolding exp_top exp_bottom
one_is_exp zero = omega arith
one_is_exp (suc n) = let a = one_is_exp n in let b = pow-succ' 0 n in omega (arith, mul-le-mul_right (suc n) a, b)

one_power : (n : ℕ) → 1 ^ n ≡ 1
one_power zero = refl
one_power (suc n) = let a = pow-succ' 1 n in let b = one_power n in omega (arith, a, b)

under_three : (n : ℕ) → exp_top 1 1 (suc n) + 1 ≤ 3 * exp_bottom 1 (suc n)
unfolding exp_top exp_bottom
under_three zero = omega arith
under_three (suc n) = let a = under_three n in let b = one_power (suc (suc n)) in omega (arith, mul-le-mul_right (suc (suc n)) a, b)

three_is_more : AtLeastExp 1 1 3 1
unfolding exp_top exp_bottom
three_is_more zero = omega arith
three_is_more (suc n) = let a = under_three n in omega (arith, a)

less_is_not : ¬ AtLeastExp 1 1 27 10
unfolding exp_top exp_bottom
less_is_not h = let a = h 4 in omega (arith, a)

an_answer : (answered (pos 5) (Some (negsuc 1)) ≡ Some (pos 3)) × (answered (negsuc 0) (Some (pos 1)) ≡ Some (pos 0)) × (answered (pos 5) None ≡ None)
an_answer = (refl, refl, refl)

is : ℕ → Option ℤ → Bool
is k None = false
is k (Some (pos j)) = j == k
is k (Some (negsuc j)) = false

no_answer : Option ℤ → Bool
no_answer None = true
no_answer (Some z) = false

-- The toy's sizes halve from one to the next: answers are hidden at p/q = 2, but for the last size, which has none after it. So
-- 1/16 is needed besides, and 1/17 is not enough. No answer is as likely from everywhere.
halves : IsAlmostAsLikely 8 2 16 toy_noise 2 1 (pos 0) (pos 1) (is 0) × IsAlmostAsLikely 8 2 16 toy_noise 2 1 (pos 0) (negsuc 0) (is 2) × IsAlmostAsLikely 8 2 16 toy_noise 2 1 (pos 0) (pos 1) no_answer
unfolding lists_passing sum_below toy_noise toy_sign toy_size is no_answer
halves = (omega arith, omega arith, omega arith)

not_at_one : ¬ IsAlmostAsLikely 8 2 16 toy_noise 1 1 (pos 0) (pos 1) (is 0)
unfolding lists_passing sum_below toy_noise toy_sign toy_size is
not_at_one h = omega (arith, h)

a_share_too_small : ¬ IsAlmostAsLikely 8 2 17 toy_noise 2 1 (pos 0) (negsuc 0) (is 2)
unfolding lists_passing sum_below toy_noise toy_sign toy_size is
a_share_too_small h = omega (arith, h)

-- one that keeps minus zero gives zero too often
minus_zero_kept : List ℕ → Option ℤ
minus_zero_kept (a ∷ b ∷ draws) = elim (toy_size a) [ None ↦ None | Some size ↦ cond (nat_lt b 4) (Some (neg_ℤ (pos size))) (Some (pos size)) ]
minus_zero_kept _ = None

not_with_minus_zero : ¬ IsAlmostAsLikely 8 2 16 minus_zero_kept 2 1 (pos 0) (pos 1) (is 0)
unfolding lists_passing sum_below minus_zero_kept toy_size is
not_with_minus_zero h = omega (arith, h)

-- Trials of exp(-1), of draws below 6: of 1/2, and after a one of 1/3, where it is a one if this gives zero.
toy_trial : List ℕ → Option Bool
toy_trial (a ∷ b ∷ draws) = cond (nat_lt a 3) (cond (nat_lt b 2) None (Some true)) (Some false)
toy_trial _ = None

-- one that stops a draw early
early_trial : List ℕ → Option Bool
early_trial (a ∷ b ∷ draws) = cond (nat_lt a 3) (Some false) (Some false)
early_trial _ = None

toy_ones : (List ℕ → Option Bool) → List ℕ → Option ℤ
toy_ones trial (a ∷ b ∷ c ∷ draws) = elim (trial (a ∷ b ∷ [])) [ None ↦ None | Some one ↦ signed_size (nat_lt c 3) (cond one 1 0) ]
toy_ones trial _ = None

hidden_by_ones : IsAlmostAsLikely 6 3 16 (toy_ones toy_trial) 3 1 (pos 0) (pos 1) (is 0)
unfolding lists_passing sum_below toy_ones toy_trial is
hidden_by_ones = omega arith

not_stopped_early : ¬ IsAlmostAsLikely 6 3 16 (toy_ones early_trial) 3 1 (pos 0) (pos 1) (is 0)
unfolding lists_passing sum_below toy_ones early_trial is
not_stopped_early h = omega (arith, h)

-- noise 0 and 1, and -1, which is neither
which_noise : (is_noise 0 (pos 0) ≡ true) × (is_noise 1 (pos 1) ≡ true) × (is_noise 1 (pos 2) ≡ false) × (is_noise 1 (negsuc 0) ≡ false) × (is_noise 0 (negsuc 0) ≡ false)
which_noise = (refl, refl, refl, refl, refl)
