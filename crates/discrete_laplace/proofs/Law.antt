-- The noise that is read is the noise of the segments, and there is at most one.
use Rattle.std.proofs.Common.{◌≡◌, ◌∙◌, sym, ap, subst, refl, ℕ, ◌-◌, List, length, take, Option, Some, None, arith, length-append}
use Rattle.std.specs.Prelude.{ℤ}
use Rattle.exact_bernoulli.specs.Meter.{draw_limit}
use Rattle.discrete_laplace.specs.DiscreteLaplace.{IsSample, IsNoise}
use Rattle.discrete_laplace.specs.Readers.{read_sample}
use Rattle.discrete_laplace.specs.Noise.{noise_of, draws_taken, noise_in, left_in}
use Rattle.discrete_laplace.proofs.Exact.{sample_reads}

noise_at : (t s : ℕ) (draws : List ℕ) (found : Option (ℤ × List ℕ)) → read_sample t s (take draw_limit draws) ≡ found → noise_of t s draws ≡ noise_in found
unfolding noise_of
noise_at t s draws found e = ap noise_in e

taken_at : (t s : ℕ) (draws : List ℕ) (found : Option (ℤ × List ℕ)) → read_sample t s (take draw_limit draws) ≡ found → draws_taken t s draws ≡ length (take draw_limit draws) - length (left_in found)
unfolding draws_taken
taken_at t s draws found e = ap (λ o. length (take draw_limit draws) - length (left_in o)) e

pub noise_found : (t s : ℕ) (draws : List ℕ) (noise : ℤ) → noise_of t s draws ≡ Some noise → IsNoise t s draws noise (draws_taken t s draws)
noise_found t s draws noise e = go (read_sample t s (take draw_limit draws)) refl
  where
    go : (o : Option (ℤ × List ℕ)) → read_sample t s (take draw_limit draws) ≡ o → IsNoise t s draws noise (draws_taken t s draws)
    go None h = absurd (cc (sym (noise_at t s draws None h) ∙ e))
    go (Some f) h =
        let r = (sample_reads t s).sound (take draw_limit draws) f h in
        let gives : f.0 ≡ noise = (let both : Some f.0 ≡ Some noise = sym (noise_at t s draws (Some f) h) ∙ e in cc both) in
        let lengths = ap length r.1 ∙ length-append r.0 f.1 in
        let taken = taken_at t s draws (Some f) h in
        record { segment = r.0; rest = f.1; cut = r.1; as_many = omega (arith, lengths, taken); sample = subst (IsSample t s r.0) gives r.2 }

pub noise_complete : (t s : ℕ) (draws : List ℕ) (noise : ℤ) (taken : ℕ) → IsNoise t s draws noise taken → (noise_of t s draws ≡ Some noise) × (draws_taken t s draws ≡ taken)
noise_complete t s draws noise taken h =
    let e = ap (read_sample t s) h.cut ∙ (sample_reads t s).complete h.segment h.rest noise h.sample in
    let lengths = ap length h.cut ∙ length-append h.segment h.rest in
    let found : Option (ℤ × List ℕ) = Some (noise, h.rest) in
    let all = taken_at t s draws found e in
    (noise_at t s draws found e, omega (arith, all, lengths, h.as_many))

pub noise_none : (t s : ℕ) (draws : List ℕ) → read_sample t s (take draw_limit draws) ≡ None → (noise_of t s draws ≡ None) × (draws_taken t s draws ≡ length (take draw_limit draws))
noise_none t s draws e = let all = taken_at t s draws None e in (noise_at t s draws None e, omega (arith, all))

pub noise_only_one : (t s : ℕ) (draws : List ℕ) (noise other : ℤ) (taken others : ℕ) → IsNoise t s draws noise taken → IsNoise t s draws other others → (noise ≡ other) × (taken ≡ others)
noise_only_one t s draws noise other taken others h k =
    let a = noise_complete t s draws noise taken h in let b = noise_complete t s draws other others k in
    let same : Some noise ≡ Some other = sym a.0 ∙ b.0 in
    (cc same, sym a.1 ∙ b.1)
