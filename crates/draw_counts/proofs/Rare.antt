-- Fewer than one list in 2^200 is exhausted.
use Rattle.std.proofs.Common.{◌≡◌, ◌∙◌, sym, ap, subst, ℕ, ◌*◌, ◌<◌, ◌≤◌, arith, lit<}
use Rattle.std.specs.Prelude.{◌^◌, is_none}
use Rattle.std.proofs.Math.Nat.{mul-le-mul_left, mul-le-mul_right, mul-lt-mul_of_pos_right, lt_of_mul-lt-mul_right, one-le-pow}
use Rattle.std.proofs.lemmas.Nat.{mul-pow}
use Rattle.std.proofs.lemmas.List.{take_all}
use Rattle.exact_bernoulli.specs.Meter.{draw_limit}
use Rattle.discrete_laplace.specs.Readers.{read_sample}
use Rattle.discrete_laplace.specs.Noise.{noise_of, noise_in}
use Rattle.draw_counts.specs.Noises.{exhausted_lists}
use Rattle.draw_counts.proofs.Symmetry.{lists_ext_long}
use Rattle.draw_counts.proofs.Steps.{count, noise_from, whole_sample}
use Rattle.draw_counts.proofs.Exhaustion.{exhausted_tail}

share_below : (x P R V c share : ℕ) → x * P ≤ c * (R * V) → share * c * R < P → 0 < V → share * x < V
share_below x P R V c share h less pos =
    let a = mul-le-mul_left share h in
    let b = mul-lt-mul_of_pos_right less pos in
    let d : (share * x) * P < V * P = omega (arith, a, b) in
    lt_of_mul-lt-mul_right P d

-- at any number of draws
pub exhausted_below : (t s n share : ℕ) → 0 < t → t ≤ 1000000 → n ≤ 4096 → share * (100 * t) * 25 ^ n < 26 ^ n → share * count n (λ ws. is_none (noise_from t s 0 ws)) < (2 ^ 64) ^ n
exhausted_below t s n share pos most l less =
    let x = count n (λ ws. is_none (noise_from t s 0 ws)) in
    share_below x (26 ^ n) (25 ^ n) ((2 ^ 64) ^ n) (100 * t) share (subst (λ y. x * 26 ^ n ≤ (100 * t) * y) (mul-pow 25 (2 ^ 64) n) (exhausted_tail t s pos most n l)) less (one-le-pow n (2 ^ 64) (omega arith))

within_limit : draw_limit ≤ 4096
unfolding draw_limit
within_limit = omega arith

powers : 2 ^ 200 * 100000000 * 25 ^ draw_limit < 26 ^ draw_limit
unfolding draw_limit
powers = lit< tt

pub exhausted_as : (t s n : ℕ) → n ≤ draw_limit → exhausted_lists t s n ≡ count n (λ ws. is_none (noise_from t s 0 ws))
unfolding noise_of
exhausted_as t s n l = lists_ext_long (2 ^ 64) n _ _ (λ ws e. ap (λ d. is_none (noise_in (read_sample t s d))) (take_all draw_limit ws (omega (arith, e, l))) ∙ ap is_none (whole_sample t s ws))

pub exhaustion_rare : (t s : ℕ) → 0 < t → t ≤ 1000000 → 2 ^ 200 * exhausted_lists t s draw_limit < (2 ^ 64) ^ draw_limit
exhaustion_rare t s pos most =
    let a = mul-le-mul_right (25 ^ draw_limit) most in
    let r = exhausted_below t s draw_limit (2 ^ 200) pos most within_limit (omega (arith, a, powers)) in
    subst (λ x. 2 ^ 200 * x < (2 ^ 64) ^ draw_limit) (sym (exhausted_as t s draw_limit (omega arith))) r
