-- the noise of number 0 of owner 0 under a key of zeros, at epsilon 1.
use Rattle.std.proofs.Common.{◌≡◌, ◌≤◌, ◌/◌, ℕ, zero, suc, List, [], ◌∷◌, Some, refl, ◌∙◌, ap, lit≤}
use Rattle.std.specs.Prelude.{pos}
use Rattle.rand_core.specs.Steps.{u32_at}
use Rattle.rand_chacha.specs.Block.{block_word, column_round, diagonal_round, double_rounds, quarter_round}
use Rattle.fz_outside.specs.Draws.{first_draws}
use Rattle.fz_frac.specs.Lowest.{gcd, gcd_in}
use Rattle.word_streams.specs.Draws.{draws_of}
use Rattle.exact_bernoulli.specs.Meter.{draw_limit}
use Rattle.exact_bernoulli.specs.Readers.{read_bernoulli_exp, read_run, read_bernoulli, read_uniform}
use Rattle.discrete_laplace.specs.Readers.{read_sample, read_attempt, read_geometric}
use Rattle.discrete_laplace.specs.Noise.{noise_of}
use Rattle.discrete_laplace.proofs.Fewer.{noise_of_first}
use Rattle.query_server.specs.AnswerPath.Noise.{noise_at, scale_numerator, scale_denominator}
use Rattle.worked_row.specs.Held.{zeros}

-- the first draws, which suffice
thirteen : List ℕ
thirteen = 0x903df1a0ade0b876 ∷ 0x28bd8653e56a5d40 ∷ 0x1aed8da0b819d2bd ∷ 0xc70d778bccef36a8 ∷ 0x8d4857517c5941da ∷ 0x374ad8b83fe02477 ∷ 0x1ca11815f4b8436a ∷ 0x8665eeb269b687c3 ∷ 0x7a385155bee7079f ∷ 0x0d082d737c97ba98 ∷ 0x6965e348a0290fcb ∷ 0xed7aee323e53c612 ∷ 0x434ee69c7621b729 ∷ []

begins_with : first_draws 13 (draws_of zeros 0 0) ≡ thirteen
unfolding draws_of block_word double_rounds column_round diagonal_round quarter_round u32_at thirteen
begins_with = refl

two : noise_of 1 1 thirteen ≡ Some (pos 2)
unfolding noise_of draw_limit read_sample read_attempt read_geometric read_bernoulli_exp read_run read_bernoulli read_uniform thirteen
two = refl

few : 13 ≤ draw_limit
unfolding draw_limit
few = lit≤ tt

-- Euclid's algorithm ends at once, whatever its bound
gcd_at_zero : (n a : ℕ) → gcd_in n a 0 ≡ a
unfolding gcd_in
gcd_at_zero zero a = refl
gcd_at_zero (suc n) a = refl

gcd_step : (n : ℕ) → gcd_in (suc n) 1000000 1000000 ≡ gcd_in n 1000000 0
unfolding gcd_in
gcd_step n = refl

gcd_by : (a b : ℕ) → gcd a b ≡ gcd_in (suc b) a b
unfolding gcd
gcd_by a b = refl

gcd_same : gcd 1000000 1000000 ≡ 1000000
gcd_same = gcd_by 1000000 1000000 ∙ gcd_step 1000000 ∙ gcd_at_zero 1000000 1000000

over_one : scale_numerator 1000000 ≡ 1
unfolding scale_numerator
over_one = ap (λ g. 1000000 / g) gcd_same

under_one : scale_denominator 1000000 ≡ 1
unfolding scale_denominator
under_one = ap (λ g. 1000000 / g) gcd_same

pub noise_is_two : noise_at 1000000 (draws_of zeros 0 0) ≡ Some (pos 2)
unfolding noise_at
noise_is_two =
    ap (λ t. noise_of t (scale_denominator 1000000) (first_draws draw_limit (draws_of zeros 0 0))) over_one
    ∙ ap (λ s. noise_of 1 s (first_draws draw_limit (draws_of zeros 0 0))) under_one
    ∙ (noise_of_first 1 1 13 (draws_of zeros 0 0) (pos 2) few (ap (λ draws. noise_of 1 1 draws) begins_with ∙ two)).0
