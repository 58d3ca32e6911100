-- A noise and its opposite come from equally many lists of draws.
use Rattle.std.proofs.Common.{◌≡◌, ◌∙◌, sym, ap, refl, ℕ, zero, suc, ◌+◌, ◌*◌, ◌<◌, ◌≤◌, Bool, true, false, List, [], ◌∷◌, Option, Some, None, arith, length, length-append}
use Rattle.std.specs.Prelude.{cond, not, ◌^◌, ◌/◌, ℤ, neg_ℤ}
use Rattle.exact_bernoulli.specs.Meter.{draw_limit}
use Rattle.exact_bernoulli.specs.Readers.{DrawReader, give, then_read, read_uniform, read_bernoulli, read_bernoulli_exp}
use Rattle.exact_bernoulli.proofs.Exact.{uniform_reads, bernoulli_exp_reads}
use Rattle.discrete_laplace.specs.DiscreteLaplace.{signed_size, IsAttempt}
use Rattle.discrete_laplace.specs.Readers.{read_geometric, read_attempt, read_sample}
use Rattle.discrete_laplace.specs.Noise.{noise_of, noise_in}
use Rattle.discrete_laplace.proofs.Exact.{geometric_reads, attempt_reads, attempt_takes}
use Rattle.draw_counts.specs.Counts.{lists_passing}
use Rattle.draw_counts.specs.Noises.{noise_passes}
use Rattle.draw_counts.proofs.Uniform.{lists_ext, below_ext}
use Rattle.std.proofs.lemmas.List.{take_all}
use Rattle.draw_counts.proofs.After.{after, count_after_less, count_then, coin_turned}
use Rattle.draw_counts.proofs.Steps.{outcome_then, noise_from, then_again, attempts_unroll, whole_sample}

abbrev turned : Option ℤ → Option ℤ
turned None = None
turned (Some z) = Some (neg_ℤ z)

abbrev turn : (Option ℤ → List ℕ → Bool) → Option ℤ → List ℕ → Bool
turn p o rest = p (turned o) rest

read_sign : ℕ → DrawReader (Option ℤ)
read_sign size = then_read (read_bernoulli 1 2) (λ negative. give (signed_size negative size))

signed_turned : (size : ℕ) (b : Bool) → turned (signed_size b (suc size)) ≡ signed_size (not b) (suc size)
signed_turned size true = refl
signed_turned size false = refl

zero_turned : (b : Bool) → turned (signed_size b 0) ≡ signed_size b 0
zero_turned true = refl
zero_turned false = refl

sign_turned : (size n : ℕ) (p : Option ℤ → List ℕ → Bool) → lists_passing (2 ^ 64) n (λ ws. after (read_sign size ws) p) ≡ lists_passing (2 ^ 64) n (λ ws. after (read_sign size ws) (turn p))
unfolding read_sign
sign_turned size n p =
    let open_p : (q : Option ℤ → List ℕ → Bool) (ws : List ℕ) → after (then_read (read_bernoulli 1 2) (λ negative. give (signed_size negative size)) ws) q ≡ after (read_bernoulli 1 2 ws) (λ b rest. q (signed_size b size) rest) = λ q ws. outcome_then false (read_bernoulli 1 2) (λ negative. give (signed_size negative size)) q ws in
    lists_ext (2 ^ 64) n _ (λ ws. after (read_bernoulli 1 2 ws) (λ b rest. p (signed_size b size) rest)) (open_p p)
    ∙ (middle size
    ∙ sym (lists_ext (2 ^ 64) n _ (λ ws. after (read_bernoulli 1 2 ws) (λ b rest. turn p (signed_size b size) rest)) (open_p (turn p))))
  where
    same_after : (o : Option (Bool × List ℕ)) (f g : Bool → List ℕ → Bool) → ((b : Bool) (rest : List ℕ) → f b rest ≡ g b rest) → after o f ≡ after o g
    same_after None f g h = refl
    same_after (Some r) f g h = h r.0 r.1

    middle : (k : ℕ) → lists_passing (2 ^ 64) n (λ ws. after (read_bernoulli 1 2 ws) (λ b rest. p (signed_size b k) rest)) ≡ lists_passing (2 ^ 64) n (λ ws. after (read_bernoulli 1 2 ws) (λ b rest. turn p (signed_size b k) rest))
    middle zero = lists_ext (2 ^ 64) n _ _ (λ ws. same_after (read_bernoulli 1 2 ws) (λ b rest. p (signed_size b 0) rest) (λ b rest. turn p (signed_size b 0) rest) (λ b rest. ap (λ o. p o rest) (sym (zero_turned b))))
    middle (suc k) = coin_turned n (λ b rest. p (signed_size b (suc k)) rest)
        ∙ lists_ext (2 ^ 64) n _ _ (λ ws. same_after (read_bernoulli 1 2 ws) (λ b rest. p (signed_size (not b) (suc k)) rest) (λ b rest. turn p (signed_size b (suc k)) rest) (λ b rest. ap (λ o. p o rest) (sym (signed_turned k b))))

read_after : ℕ → ℕ → ℕ → Bool → DrawReader (Option ℤ)
read_after t s u goes_on = elim goes_on [
  | false ↦ give None
  | true ↦ then_read read_geometric λ v. read_sign ((u + t * v) / s)
]

after_turned : (t s u n : ℕ) (goes_on : Bool) (p : Option ℤ → List ℕ → Bool) → lists_passing (2 ^ 64) n (λ ws. after (read_after t s u goes_on ws) p) ≡ lists_passing (2 ^ 64) n (λ ws. after (read_after t s u goes_on ws) (turn p))
unfolding read_after
after_turned t s u n false p = refl
after_turned t s u n true p = count_then (2 ^ 64) n read_geometric (λ v. read_sign ((u + t * v) / s)) _ geometric_reads p (turn p) (λ v j l. sign_turned ((u + t * v) / s) j p)

attempt_turned : (t s n : ℕ) (p : Option ℤ → List ℕ → Bool) → lists_passing (2 ^ 64) n (λ ws. after (read_attempt t s ws) p) ≡ lists_passing (2 ^ 64) n (λ ws. after (read_attempt t s ws) (turn p))
unfolding read_attempt read_after read_sign
attempt_turned t s n p = count_then (2 ^ 64) n (read_uniform t) (λ u. then_read (read_bernoulli_exp u t) (read_after t s u)) _ (uniform_reads t) p (turn p)
    (λ u j l. count_then (2 ^ 64) j (read_bernoulli_exp u t) (read_after t s u) _ (bernoulli_exp_reads u t) p (turn p) (λ g i m. after_turned t s u i g p))

no_attempt : (t s : ℕ) → read_attempt t s [] ≡ None
no_attempt t s = go (read_attempt t s []) refl
  where
    go : (o : Option (Option ℤ × List ℕ)) → read_attempt t s [] ≡ o → read_attempt t s [] ≡ None
    go None e = e
    go (Some f) e = let r = (attempt_reads t s).sound [] f e in let l = attempt_takes t s r.0 f.0 r.2 in absurd (omega (arith, l, ap length r.1 ∙ length-append r.0 f.1))

sample_turned : (t s n j k : ℕ) (test : ℤ → Bool) → j < n → lists_passing (2 ^ 64) j (λ ws. noise_passes test (noise_from t s k ws)) ≡ lists_passing (2 ^ 64) j (λ ws. noise_passes (λ z. test (neg_ℤ z)) (noise_from t s k ws))
sample_turned t s zero j k test l = absurd (omega (arith, l))
sample_turned t s (suc n) j k test l =
    lists_ext (2 ^ 64) j _ (λ ws. after (read_attempt t s ws) (then_again t s (noise_passes test) k)) (attempts_unroll t s k (noise_passes test))
    ∙ (attempt_turned t s j (then_again t s (noise_passes test) k)
    ∙ (count_after_less (2 ^ 64) j (read_attempt t s) (IsAttempt t s) (attempt_reads t s) (no_attempt t s) (turn (then_again t s (noise_passes test) k)) (then_again t s (noise_passes (λ z. test (neg_ℤ z))) k) (each (λ i m. sample_turned t s n i (suc k) test (omega (arith, l, m))))
    ∙ sym (lists_ext (2 ^ 64) j _ (λ ws. after (read_attempt t s ws) (then_again t s (noise_passes (λ z. test (neg_ℤ z))) k)) (attempts_unroll t s k (noise_passes (λ z. test (neg_ℤ z)))))))
  where
    each : ((i : ℕ) → i < j → lists_passing (2 ^ 64) i (λ ws. noise_passes test (noise_from t s (suc k) ws)) ≡ lists_passing (2 ^ 64) i (λ ws. noise_passes (λ z. test (neg_ℤ z)) (noise_from t s (suc k) ws))) → (a : Option ℤ) (i : ℕ) → i < j → lists_passing (2 ^ 64) i (turn (then_again t s (noise_passes test) k) a) ≡ lists_passing (2 ^ 64) i (then_again t s (noise_passes (λ z. test (neg_ℤ z))) k a)
    each before None i m = before i m
    each before (Some z) i m = refl

pub sample_symmetric : (t s n : ℕ) (test : ℤ → Bool) → lists_passing (2 ^ 64) n (λ ws. noise_passes test (noise_in (read_sample t s ws))) ≡ lists_passing (2 ^ 64) n (λ ws. noise_passes (λ z. test (neg_ℤ z)) (noise_in (read_sample t s ws)))
sample_symmetric t s n test =
    lists_ext (2 ^ 64) n _ (λ ws. noise_passes test (noise_from t s 0 ws)) (λ ws. ap (noise_passes test) (whole_sample t s ws))
    ∙ (sample_turned t s (suc n) n 0 test (omega arith)
    ∙ sym (lists_ext (2 ^ 64) n _ (λ ws. noise_passes (λ z. test (neg_ℤ z)) (noise_from t s 0 ws)) (λ ws. ap (noise_passes (λ z. test (neg_ℤ z))) (whole_sample t s ws))))

pub lists_ext_long : (words n : ℕ) (p q : List ℕ → Bool) → ((ws : List ℕ) → length ws ≡ n → p ws ≡ q ws) → lists_passing words n p ≡ lists_passing words n q
unfolding lists_passing
lists_ext_long words zero p q h = ap (λ b. cond {A = ℕ} b 1 0) (h [] refl)
lists_ext_long words (suc n) p q h = below_ext _ _ words (λ w _. lists_ext_long words n (λ rest. p (w ∷ rest)) (λ rest. q (w ∷ rest)) (λ rest l. h (w ∷ rest) (omega (arith, l))))

pub whole_noise : (t s n : ℕ) (test : ℤ → Bool) → n ≤ draw_limit → lists_passing (2 ^ 64) n (λ ws. noise_passes test (noise_of t s ws)) ≡ lists_passing (2 ^ 64) n (λ ws. noise_passes test (noise_in (read_sample t s ws)))
unfolding noise_of
whole_noise t s n test l = lists_ext_long (2 ^ 64) n _ _ (λ ws e. ap (λ d. noise_passes test (noise_in (read_sample t s d))) (take_all draw_limit ws (omega (arith, e, l))))

pub noise_symmetric : (t s n : ℕ) (test : ℤ → Bool) → n ≤ draw_limit → lists_passing (2 ^ 64) n (λ ws. noise_passes test (noise_of t s ws)) ≡ lists_passing (2 ^ 64) n (λ ws. noise_passes (λ z. test (neg_ℤ z)) (noise_of t s ws))
noise_symmetric t s n test l = whole_noise t s n test l ∙ (sample_symmetric t s n test ∙ sym (whole_noise t s n (λ z. test (neg_ℤ z)) l))
