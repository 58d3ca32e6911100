-- Worked examples, computed.
use Rattle.std.proofs.Common.{◌≡◌, ℕ, ◌+◌, refl, lit<, lit≤, true, false, [], ◌∷◌, ◌++◌, take, Some, None}
use Rattle.std.specs.Prelude.{replicate}
use Rattle.exact_bernoulli.specs.ExactBernoulli.{uniform_limit, IsUniform}
use Rattle.exact_bernoulli.specs.Readers.{read_uniform, read_bernoulli, read_run, read_bernoulli_exp}
use Rattle.exact_bernoulli.specs.Meter.{draw_limit, allowed}

-- a draw in the last, incomplete round is rejected: by its segment of two draws, and read
rejected_segment : IsUniform 3 (18446744073709551615 ∷ 5 ∷ []) 2
rejected_segment = record { run = 18446744073709551615 ∷ []; kept = 5; cut = refl; above = (lit≤ tt, tt); below = lit< tt; gives = refl }

rejected_draw : read_uniform 3 (18446744073709551615 ∷ 5 ∷ 9 ∷ []) ≡ Some (2, 9 ∷ [])
unfolding read_uniform
rejected_draw = refl

-- draws are kept below 2^64 less its remainder by m: all of them for m = 1 and 2, and all but the last for 3
limits : (uniform_limit 1 ≡ 18446744073709551616) × (uniform_limit 2 ≡ 18446744073709551616) × (uniform_limit 3 ≡ 18446744073709551615) × (uniform_limit 10 ≡ 18446744073709551610)
limits = (refl, refl, refl, refl)

last_kept : read_uniform 10 (18446744073709551609 ∷ 7 ∷ []) ≡ Some (9, 7 ∷ [])
unfolding read_uniform
last_kept = refl

first_rejected : read_uniform 10 (18446744073709551610 ∷ 7 ∷ []) ≡ Some (7, [])
unfolding read_uniform
first_rejected = refl

-- one draw is taken for m = 1
one_of_one : read_uniform 1 (18446744073709551615 ∷ 7 ∷ []) ≡ Some (0, 7 ∷ [])
unfolding read_uniform
one_of_one = refl

no_draw : read_uniform 1 [] ≡ None
unfolding read_uniform
no_draw = refl

-- a draw is taken for a fraction over 1 too; 1/3 gives one at 0 alone, and 2/4 isn't reduced
sure : read_bernoulli 1 1 (7 ∷ 9 ∷ []) ≡ Some (true, 9 ∷ [])
unfolding read_bernoulli read_uniform
sure = refl

never : read_bernoulli 0 1 (7 ∷ 9 ∷ []) ≡ Some (false, 9 ∷ [])
unfolding read_bernoulli read_uniform
never = refl

a_third : (read_bernoulli 1 3 (3 ∷ []) ≡ Some (true, [])) × (read_bernoulli 1 3 (4 ∷ []) ≡ Some (false, []))
unfolding read_bernoulli read_uniform
a_third = (refl, refl)

two_quarters : (read_bernoulli 2 4 (2 ∷ []) ≡ Some (false, [])) × (read_bernoulli 1 2 (2 ∷ []) ≡ Some (true, []))
unfolding read_bernoulli read_uniform
two_quarters = (refl, refl)

-- exp(-1/2) by one, two and three trials, of 1/2, 1/4 and 1/6
one_trial : read_bernoulli_exp 1 2 (1 ∷ 9 ∷ []) ≡ Some (true, 9 ∷ [])
unfolding read_bernoulli_exp read_run read_bernoulli read_uniform
one_trial = refl

two_trials : read_bernoulli_exp 1 2 (2 ∷ 1 ∷ 9 ∷ []) ≡ Some (false, 9 ∷ [])
unfolding read_bernoulli_exp read_run read_bernoulli read_uniform
two_trials = refl

three_trials : read_bernoulli_exp 1 2 (2 ∷ 4 ∷ 4 ∷ 9 ∷ []) ≡ Some (true, 9 ∷ [])
unfolding read_bernoulli_exp read_run read_bernoulli read_uniform
three_trials = refl

-- exp(0) is one, with one draw
exp_of_nothing : read_bernoulli_exp 0 5 (0 ∷ 9 ∷ []) ≡ Some (true, 9 ∷ [])
unfolding read_bernoulli_exp read_run read_bernoulli read_uniform
exp_of_nothing = refl

unended_trials : read_bernoulli_exp 1 1 (0 ∷ 0 ∷ 0 ∷ []) ≡ None
unfolding read_bernoulli_exp read_run read_bernoulli read_uniform
unended_trials = refl

-- a meter allows 4,096 draws
limit_of_draws : draw_limit ≡ 4096
unfolding draw_limit
limit_of_draws = refl

-- words whose draws are 0, 1, 2, .. from where they stand
counting : ℕ → ℕ → ℕ
counting place i = i + place

-- of one draw that is still allowed the next number takes it, and behind it there is none
last_draw : read_uniform 3 (allowed counting 1 4095) ≡ Some (0, [])
unfolding read_uniform counting
last_draw = refl

no_draw_left : read_uniform 3 (allowed counting 0 4096) ≡ None
unfolding read_uniform counting
no_draw_left = refl

-- rejected draws count: the 4,096th draw may be the one that is kept, and the next one may not
kept_as_the_last : read_uniform 3 (take draw_limit (replicate 4095 18446744073709551615 ++ 5 ∷ 7 ∷ [])) ≡ Some (2, [])
unfolding read_uniform draw_limit
kept_as_the_last = refl

kept_too_late : read_uniform 3 (take draw_limit (replicate 4096 18446744073709551615 ++ 5 ∷ 7 ∷ [])) ≡ None
unfolding read_uniform draw_limit
kept_too_late = refl
