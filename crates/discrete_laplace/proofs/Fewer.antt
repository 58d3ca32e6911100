-- Fewer draws than a sample may take.
use Rattle.std.proofs.Common.{◌≡◌, ◌∙◌, sym, ap, ℕ, ◌+◌, ◌-◌, ◌≤◌, ◌++◌, Some, arith, append_assoc}
use Rattle.std.specs.Prelude.{ℤ}
use Rattle.std.proofs.lemmas.List.{take_all}
use Rattle.fz_outside.specs.Draws.{first_draws, draws_after}
use Rattle.fz_outside.proofs.Drawn.{length-first, first-+}
use Rattle.exact_bernoulli.specs.Meter.{draw_limit}
use Rattle.discrete_laplace.specs.Noise.{noise_of, draws_taken}
use Rattle.discrete_laplace.proofs.Law.{noise_found, noise_complete}
use Rattle.discrete_laplace.proofs.Samples.{all_of_them}

-- Fewer draws that suffice give the same, so that a few computed draws tell the noise of a whole stream.
pub noise_of_first : (t s n : ℕ) (d : ℕ → ℕ) (noise : ℤ) → n ≤ draw_limit → noise_of t s (first_draws n d) ≡ Some noise → (noise_of t s (first_draws draw_limit d) ≡ Some noise) × (draws_taken t s (first_draws draw_limit d) ≡ draws_taken t s (first_draws n d))
noise_of_first t s n d noise l e =
    let h = noise_found t s (first_draws n d) noise e in
    let few = length-first n d in
    let whole : n + (draw_limit - n) ≡ draw_limit = omega arith in
    let more = first_draws (draw_limit - n) (draws_after n d) in
    let cut : first_draws n d ≡ h.segment ++ h.rest = sym (take_all draw_limit (first_draws n d) (omega (arith, few))) ∙ h.cut in
    let split : first_draws draw_limit d ≡ first_draws n d ++ more = ap (λ k. first_draws k d) (sym whole) ∙ first-+ n (draw_limit - n) d in
    noise_complete t s (first_draws draw_limit d) noise (draws_taken t s (first_draws n d))
    (record { segment = h.segment; rest = h.rest ++ more; cut = all_of_them d ∙ (split ∙ (ap (λ xs. xs ++ more) cut ∙ append_assoc h.segment h.rest more)); as_many = h.as_many; sample = h.sample })
