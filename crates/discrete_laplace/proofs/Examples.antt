-- Worked examples, computed.
use Rattle.std.proofs.Common.{◌≡◌, ℕ, refl, subst, true, false, List, [], ◌∷◌, Some, None}
use Rattle.std.specs.Prelude.{pos, negsuc, replicate}
use Rattle.exact_bernoulli.specs.Meter.{draw_limit}
use Rattle.exact_bernoulli.specs.Readers.{read_bernoulli_exp, read_run, read_bernoulli, read_uniform}
use Rattle.discrete_laplace.specs.DiscreteLaplace.{signed_size, IsNoise}
use Rattle.discrete_laplace.specs.Readers.{read_sample, read_attempt, read_geometric}
use Rattle.discrete_laplace.specs.Noise.{noise_of, draws_taken}
use Rattle.discrete_laplace.proofs.Law.{noise_found}

-- no one of exp(-1) before the first zero, and one
none_before_zero : read_geometric (7 ∷ 1 ∷ 9 ∷ []) ≡ Some (0, 9 ∷ [])
unfolding read_geometric read_bernoulli_exp read_run read_bernoulli read_uniform
none_before_zero = refl

one_before_zero : read_geometric (7 ∷ 0 ∷ 1 ∷ 7 ∷ 1 ∷ 9 ∷ []) ≡ Some (1, 9 ∷ [])
unfolding read_geometric read_bernoulli_exp read_run read_bernoulli read_uniform
one_before_zero = refl

-- scale 2: u = 1 and a zero of exp(-1/2) reject the attempt, before a sign is drawn
stopped : read_attempt 2 1 (1 ∷ 2 ∷ 1 ∷ 9 ∷ []) ≡ Some (None, 9 ∷ [])
unfolding read_attempt read_geometric read_bernoulli_exp read_run read_bernoulli read_uniform
stopped = refl

-- scale 3/2: u = 2 and v = 1 make 5, and half of it, rounded down, is 2; a sign's 0 makes it negative
size_and_sign : (read_attempt 3 2 (2 ∷ 2 ∷ 7 ∷ 0 ∷ 1 ∷ 7 ∷ 1 ∷ 1 ∷ 9 ∷ []) ≡ Some (Some (pos 2), 9 ∷ [])) × (read_attempt 3 2 (2 ∷ 2 ∷ 7 ∷ 0 ∷ 1 ∷ 7 ∷ 1 ∷ 0 ∷ 9 ∷ []) ≡ Some (Some (negsuc 1), 9 ∷ []))
unfolding read_attempt read_geometric read_bernoulli_exp read_run read_bernoulli read_uniform
size_and_sign = (refl, refl)

signs : (signed_size true 0 ≡ None) × (signed_size true 3 ≡ Some (negsuc 2)) × (signed_size false 0 ≡ Some (pos 0)) × (signed_size false 3 ≡ Some (pos 3))
signs = (refl, refl, refl, refl)

-- where the draws don't suffice, all that there are are taken
too_few : (noise_of 1 1 (7 ∷ 7 ∷ 7 ∷ 1 ∷ []) ≡ None) × (draws_taken 1 1 (7 ∷ 7 ∷ 7 ∷ 1 ∷ []) ≡ 4)
unfolding noise_of draws_taken draw_limit read_sample read_attempt read_geometric read_bernoulli_exp read_run read_bernoulli read_uniform
too_few = (refl, refl)

-- scale 1: u = 0, a one of exp(0), a zero of exp(-1) and a sign
zero_in_five : noise_of 1 1 (7 ∷ 7 ∷ 7 ∷ 1 ∷ 1 ∷ []) ≡ Some (pos 0)
unfolding noise_of draw_limit read_sample read_attempt read_geometric read_bernoulli_exp read_run read_bernoulli read_uniform
zero_in_five = refl

zero_in_five-taken : draws_taken 1 1 (7 ∷ 7 ∷ 7 ∷ 1 ∷ 1 ∷ []) ≡ 5
unfolding draws_taken draw_limit read_sample read_attempt read_geometric read_bernoulli_exp read_run read_bernoulli read_uniform
zero_in_five-taken = refl

-- one of exp(-1), and a negative sign
minus_one : noise_of 1 1 (0 ∷ 0 ∷ 0 ∷ 0 ∷ 1 ∷ 0 ∷ 1 ∷ 0 ∷ []) ≡ Some (negsuc 0)
unfolding noise_of draw_limit read_sample read_attempt read_geometric read_bernoulli_exp read_run read_bernoulli read_uniform
minus_one = refl

minus_one-taken : draws_taken 1 1 (0 ∷ 0 ∷ 0 ∷ 0 ∷ 1 ∷ 0 ∷ 1 ∷ 0 ∷ []) ≡ 8
unfolding draws_taken draw_limit read_sample read_attempt read_geometric read_bernoulli_exp read_run read_bernoulli read_uniform
minus_one-taken = refl

-- minus zero is rejected, and a second attempt gives zero
no_minus_zero : noise_of 1 1 (7 ∷ 7 ∷ 7 ∷ 1 ∷ 0 ∷ 7 ∷ 7 ∷ 7 ∷ 1 ∷ 1 ∷ []) ≡ Some (pos 0)
unfolding noise_of draw_limit read_sample read_attempt read_geometric read_bernoulli_exp read_run read_bernoulli read_uniform
no_minus_zero = refl

no_minus_zero-taken : draws_taken 1 1 (7 ∷ 7 ∷ 7 ∷ 1 ∷ 0 ∷ 7 ∷ 7 ∷ 7 ∷ 1 ∷ 1 ∷ []) ≡ 10
unfolding draws_taken draw_limit read_sample read_attempt read_geometric read_bernoulli_exp read_run read_bernoulli read_uniform
no_minus_zero-taken = refl

-- the first draws of ChaCha20 under a key of zeros (RFC 8439, appendix A.1)
thirteen : List ℕ
thirteen = 0x903df1a0ade0b876 ∷ 0x28bd8653e56a5d40 ∷ 0x1aed8da0b819d2bd ∷ 0xc70d778bccef36a8 ∷ 0x8d4857517c5941da ∷ 0x374ad8b83fe02477 ∷ 0x1ca11815f4b8436a ∷ 0x8665eeb269b687c3 ∷ 0x7a385155bee7079f ∷ 0x0d082d737c97ba98 ∷ 0x6965e348a0290fcb ∷ 0xed7aee323e53c612 ∷ 0x434ee69c7621b729 ∷ []

two : noise_of 1 1 thirteen ≡ Some (pos 2)
unfolding noise_of draw_limit read_sample read_attempt read_geometric read_bernoulli_exp read_run read_bernoulli read_uniform thirteen
two = refl

two-taken : draws_taken 1 1 thirteen ≡ 13
unfolding draws_taken draw_limit read_sample read_attempt read_geometric read_bernoulli_exp read_run read_bernoulli read_uniform thirteen
two-taken = refl

-- zeros for ever never end the count of ones
zeros : noise_of 1 1 (replicate 5000 0) ≡ None
unfolding noise_of draw_limit read_sample read_attempt read_geometric read_bernoulli_exp read_run read_bernoulli read_uniform
zeros = refl

-- so a sample of thirteen draws stands in front of the list
two_by_segments : IsNoise 1 1 thirteen (pos 2) 13
two_by_segments = subst (IsNoise 1 1 thirteen (pos 2)) two-taken (noise_found 1 1 thirteen (pos 2) two)
