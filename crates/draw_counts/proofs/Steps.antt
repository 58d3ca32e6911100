-- Counts of lists, one draw at a time: what is read, then a test of it and of the draws after it, and a bit for no result.
use Rattle.std.proofs.Common.{◌≡◌, ◌∙◌, sym, ap, subst, refl, ℕ, zero, suc, ◌+◌, ◌*◌, ◌%◌, ◌<◌, ◌≤◌, Bool, true, false, List, ◌∷◌, Option, Some, None, arith}
use Rattle.std.specs.Prelude.{nat_lt, cond, ◌/◌, ◌^◌, ◌==◌, ℤ, is_none}
use Rattle.std.proofs.lemmas.Bool.{lt-ltb, le-ltb}
use Rattle.std.proofs.lemmas.Nat.{mod-mul-add}
use Rattle.exact_bernoulli.specs.Readers.{DrawReader, give, then_read, read_uniform, read_bernoulli, read_run, read_bernoulli_exp}
use Rattle.exact_bernoulli.proofs.Exact.{uniform_kept, uniform_again, then_complete, then_none, bernoulli_reads, bernoulli_takes, bernoulli_exp_reads, bernoulli_exp_takes}
use Rattle.exact_bernoulli.proofs.Runs.{Shrinks, shrinks_from, run_again, run_last, run_none}
use Rattle.discrete_laplace.specs.DiscreteLaplace.{signed_size}
use Rattle.discrete_laplace.specs.Readers.{read_geometric, read_attempt, given, read_sample}
use Rattle.discrete_laplace.specs.Noise.{noise_in}
use Rattle.discrete_laplace.proofs.Exact.{attempt_reads, attempt_takes}
use Rattle.draw_counts.specs.Counts.{sum_below, lists_passing}
use Rattle.draw_counts.proofs.Uniform.{below_ext, below_+, below_const, suc-mul, lists_ext, limit_is, words_are}

abbrev pub outcome : {A : Type 0} → Bool → Option (A × List ℕ) → (A → List ℕ → Bool) → Bool
outcome none None test = none
outcome none (Some found) test = test found.0 found.1

-- how many lists of n draws pass
abbrev pub count : ℕ → (List ℕ → Bool) → ℕ
count n p = lists_passing (2 ^ 64) n p

pub outcome_then : {A B : Type 0} (b : Bool) (first : DrawReader A) (second : A → DrawReader B) (p : B → List ℕ → Bool) (ws : List ℕ) → outcome b (then_read first second ws) p ≡ outcome b (first ws) (λ a rest. outcome b (second a rest) p)
outcome_then {A} {B} b first second p ws = go (first ws) refl
  where
    go : (o : Option (A × List ℕ)) → first ws ≡ o → outcome b (then_read first second ws) p ≡ outcome b (first ws) (λ a rest. outcome b (second a rest) p)
    go None e = ap (λ o. outcome b o p) (then_none first second ws e) ∙ sym (ap (λ o. outcome b o (λ a rest. outcome b (second a rest) p)) e)
    go (Some f) e = ap (λ o. outcome b o p) (then_complete first second ws f.1 f.0 e) ∙ sym (ap (λ o. outcome b o (λ a rest. outcome b (second a rest) p)) e)

pub outcome_ext : {A : Type 0} (b : Bool) (o : Option (A × List ℕ)) (p q : A → List ℕ → Bool) → ((a : A) (rest : List ℕ) → p a rest ≡ q a rest) → outcome b o p ≡ outcome b o q
outcome_ext b None p q h = refl
outcome_ext b (Some f) p q h = h f.0 f.1

all_rounds : (g : ℕ → ℕ) (m q : ℕ) → sum_below (λ w. g (w % m)) (q * m) ≡ q * sum_below g m
unfolding sum_below
all_rounds g m zero = let e : 0 * m ≡ 0 = omega arith in ap (sum_below (λ w. g (w % m))) e ∙ omega arith
all_rounds g m (suc q) =
    let f : ℕ → ℕ = λ w. g (w % m) in
    let a = all_rounds g m q in
    let b = below_ext (λ i. f (q * m + i)) g m (λ i l. ap g (mod-mul-add q m i l)) in
    let d = suc-mul q (sum_below g m) in
    let s : sum_below f (q * m) + sum_below (λ i. f (q * m + i)) m ≡ suc q * sum_below g m = omega (arith, a, b, d) in
    ap (sum_below f) (suc-mul q m) ∙ (below_+ f (q * m) m ∙ s)

uniform_first : (b : Bool) (m n : ℕ) (p : ℕ → List ℕ → Bool) → count (suc n) (λ ws. outcome b (read_uniform m ws) p) ≡ 2 ^ 64 / m * sum_below (λ i. count n (p i)) m + 2 ^ 64 % m * count n (λ ws. outcome b (read_uniform m ws) p)
unfolding lists_passing
uniform_first b m n p =
    let q = 2 ^ 64 / m in let e = 2 ^ 64 % m in
    let g : ℕ → ℕ = λ i. count n (p i) in
    let d = count n (λ ws. outcome b (read_uniform m ws) p) in
    let f : ℕ → ℕ = λ w. count n (λ rest. outcome b (read_uniform m (w ∷ rest)) p) in
    let lim = limit_is m in
    let kept = below_ext f (λ w. g (w % m)) (q * m) (λ w l. lists_ext (2 ^ 64) n (λ rest. outcome b (read_uniform m (w ∷ rest)) p) (p (w % m)) (λ rest. ap (λ o. outcome b o p) (uniform_kept m w rest (subst (λ x. w < x) (sym lim) l)))) in
    let again : (w : ℕ) → q * m ≤ w → f w ≡ d = λ w l. lists_ext (2 ^ 64) n (λ rest. outcome b (read_uniform m (w ∷ rest)) p) (λ ws. outcome b (read_uniform m ws) p) (λ rest. ap (λ o. outcome b o p) (uniform_again m w rest (subst (λ x. x ≤ w) (sym lim) l))) in
    let r = all_rounds g m q in
    let c = below_ext (λ i. f (q * m + i)) (λ _. d) e (λ i l. again (q * m + i) (omega arith)) ∙ below_const d e in
    ap (sum_below f) (words_are m) ∙ (below_+ f (q * m) e ∙ omega (arith, kept, r, c))

pub uniform_step : (b : Bool) (m n : ℕ) (p : ℕ → List ℕ → Bool) → count (suc n) (λ ws. outcome b (read_uniform m ws) p) ≡ 2 ^ 64 / m * sum_below (λ i. count n (p i)) m + 2 ^ 64 % m * count n (λ ws. outcome b (read_uniform m ws) p)
uniform_step = uniform_first

abbrev pub bit : Bool → ℕ
bit b = cond b 1 0

pub uniform_start : (b : Bool) (m : ℕ) (p : ℕ → List ℕ → Bool) → count 0 (λ ws. outcome b (read_uniform m ws) p) ≡ bit b
unfolding lists_passing read_uniform
uniform_start b m p = refl

split_sum : (g : Bool → ℕ) (n z d : ℕ) → n + z ≡ d → sum_below (λ i. g (nat_lt i n)) d ≡ n * g true + z * g false
split_sum g n z d e =
    let f : ℕ → ℕ = λ i. g (nat_lt i n) in
    let a = below_ext f (λ _. g true) n (λ i l. ap g (lt-ltb i n l)) ∙ below_const (g true) n in
    let b = below_ext (λ i. f (n + i)) (λ _. g false) z (λ i l. ap g (le-ltb (n + i) n (omega arith))) ∙ below_const (g false) z in
    ap (sum_below f) (sym e) ∙ (below_+ f n z ∙ omega (arith, a, b))

bernoulli_as : (b : Bool) (n d : ℕ) (p : Bool → List ℕ → Bool) (ws : List ℕ) → outcome b (read_bernoulli n d ws) p ≡ outcome b (read_uniform d ws) (λ x rest. p (nat_lt x n) rest)
unfolding read_bernoulli
bernoulli_as b n d p ws = outcome_then b (read_uniform d) (λ number. give (nat_lt number n)) p ws

pub bernoulli_step : (b : Bool) (n z d k : ℕ) (p : Bool → List ℕ → Bool) → n + z ≡ d
    → count (suc k) (λ ws. outcome b (read_bernoulli n d ws) p) ≡ 2 ^ 64 / d * (n * count k (p true) + z * count k (p false)) + 2 ^ 64 % d * count k (λ ws. outcome b (read_bernoulli n d ws) p)
bernoulli_step b n z d k p e =
    let s = uniform_step b d k (λ x rest. p (nat_lt x n) rest) in
    let same = bernoulli_as b n d p in
    let sum = split_sum (λ one. count k (p one)) n z d e in
    let again = sym (lists_ext (2 ^ 64) k _ (λ ws. outcome b (read_uniform d ws) (λ x rest. p (nat_lt x n) rest)) same) in
    lists_ext (2 ^ 64) (suc k) _ (λ ws. outcome b (read_uniform d ws) (λ x rest. p (nat_lt x n) rest)) same ∙ (s ∙ (ap (λ x. 2 ^ 64 / d * x + 2 ^ 64 % d * count k (λ ws. outcome b (read_uniform d ws) (λ x rest. p (nat_lt x n) rest))) sum
    ∙ ap (λ x. 2 ^ 64 / d * (n * count k (p true) + z * count k (p false)) + 2 ^ 64 % d * x) again))

pub bernoulli_start : (b : Bool) (n d : ℕ) (p : Bool → List ℕ → Bool) → count 0 (λ ws. outcome b (read_bernoulli n d ws) p) ≡ bit b
bernoulli_start b n d p = lists_ext (2 ^ 64) 0 _ (λ ws. outcome b (read_uniform d ws) (λ x rest. p (nat_lt x n) rest)) (bernoulli_as b n d p) ∙ uniform_start b d (λ x rest. p (nat_lt x n) rest)

-- runs, one segment at a time
abbrev pub run : (ℕ → DrawReader Bool) → ℕ → DrawReader (ℕ × Bool)
run read k = read_run read (λ one. one) k

run_unrolls : (b : Bool) (read : ℕ → DrawReader Bool) → ((k : ℕ) → Shrinks (read k)) → (k : ℕ) (p : ℕ × Bool → List ℕ → Bool) (ws : List ℕ)
    → outcome b (run read k ws) p ≡ outcome b (read k ws) (λ one rest. cond one (outcome b (run read (suc k) rest) p) (p (k, false) rest))
run_unrolls b read shrinks k p ws = go (read k ws) refl
  where
    next : Bool → List ℕ → Bool
    next one rest = cond one (outcome b (run read (suc k) rest) p) (p (k, false) rest)

    go : (o : Option (Bool × List ℕ)) → read k ws ≡ o → outcome b (run read k ws) p ≡ outcome b (read k ws) (λ one rest. cond one (outcome b (run read (suc k) rest) p) (p (k, false) rest))
    go None e = ap (λ o. outcome b o p) (run_none read (λ one. one) shrinks k ws e) ∙ sym (ap (λ o. outcome b o (λ one rest. cond one (outcome b (run read (suc k) rest) p) (p (k, false) rest))) e)
    go (Some (true, rest)) e = ap (λ o. outcome b o p) (run_again read (λ one. one) shrinks k true ws rest e refl) ∙ sym (ap (λ o. outcome b o (λ one rest. cond one (outcome b (run read (suc k) rest) p) (p (k, false) rest))) e)
    go (Some (false, rest)) e = ap (λ o. outcome b o p) (run_last read (λ one. one) shrinks k false ws rest e refl) ∙ sym (ap (λ o. outcome b o (λ one rest. cond one (outcome b (run read (suc k) rest) p) (p (k, false) rest))) e)

abbrev pub trials : ℕ → ℕ → ℕ → DrawReader (ℕ × Bool)
trials u t k = read_run (λ k. read_bernoulli u (t * k)) (λ one. one) k

trial_shrinks : (u t k : ℕ) → Shrinks (read_bernoulli u (t * k))
trial_shrinks u t k = shrinks_from (bernoulli_reads u (t * k)) (bernoulli_takes u (t * k))

trials_unroll : (b : Bool) (u t k : ℕ) (p : ℕ × Bool → List ℕ → Bool) (ws : List ℕ)
    → outcome b (trials u t k ws) p ≡ outcome b (read_bernoulli u (t * k) ws) (λ one rest. cond one (outcome b (trials u t (suc k) rest) p) (p (k, false) rest))
trials_unroll b u t k p ws = run_unrolls b (λ k. read_bernoulli u (t * k)) (trial_shrinks u t) k p ws

pub trials_step : (b : Bool) (u z t k n : ℕ) (p : ℕ × Bool → List ℕ → Bool) → u + z ≡ t * k
    → count (suc n) (λ ws. outcome b (trials u t k ws) p) ≡ 2 ^ 64 / (t * k) * (u * count n (λ ws. outcome b (trials u t (suc k) ws) p) + z * count n (p (k, false))) + 2 ^ 64 % (t * k) * count n (λ ws. outcome b (trials u t k ws) p)
trials_step b u z t k n p e =
    let next : Bool → List ℕ → Bool = λ one rest. cond one (outcome b (trials u t (suc k) rest) p) (p (k, false) rest) in
    let s = bernoulli_step b u z (t * k) n next e in
    lists_ext (2 ^ 64) (suc n) _ (λ ws. outcome b (read_bernoulli u (t * k) ws) next) (trials_unroll b u t k p)
    ∙ (s ∙ ap (λ x. 2 ^ 64 / (t * k) * (u * count n (next true) + z * count n (next false)) + 2 ^ 64 % (t * k) * x) (sym (lists_ext (2 ^ 64) n _ (λ ws. outcome b (read_bernoulli u (t * k) ws) next) (trials_unroll b u t k p))))

pub trials_start : (b : Bool) (u t k : ℕ) (p : ℕ × Bool → List ℕ → Bool) → count 0 (λ ws. outcome b (trials u t k ws) p) ≡ bit b
trials_start b u t k p = lists_ext (2 ^ 64) 0 _ (λ ws. outcome b (read_bernoulli u (t * k) ws) (λ one rest. cond one (outcome b (trials u t (suc k) rest) p) (p (k, false) rest))) (trials_unroll b u t k p) ∙ bernoulli_start b u (t * k) _

-- a trial of exp(-u/t)
pub exp_as : (b : Bool) (u t : ℕ) (p : Bool → List ℕ → Bool) (ws : List ℕ) → outcome b (read_bernoulli_exp u t ws) p ≡ outcome b (trials u t 1 ws) (λ zero rest. p (zero.0 % 2 == 1) rest)
unfolding read_bernoulli_exp
exp_as b u t p ws = outcome_then b (trials u t 1) (λ zero. give (zero.0 % 2 == 1)) p ws

abbrev pub ones : ℕ → DrawReader (ℕ × Bool)
ones v = read_run (λ _. read_bernoulli_exp 1 1) (λ one. one) v

one_shrinks : Shrinks (read_bernoulli_exp 1 1)
one_shrinks = shrinks_from (bernoulli_exp_reads 1 1) (bernoulli_exp_takes 1 1)

pub ones_unroll : (b : Bool) (v : ℕ) (p : ℕ × Bool → List ℕ → Bool) (ws : List ℕ)
    → outcome b (ones v ws) p ≡ outcome b (trials 1 1 1 ws) (λ zero rest. cond (zero.0 % 2 == 1) (outcome b (ones (suc v) rest) p) (p (v, false) rest))
ones_unroll b v p ws = run_unrolls b (λ _. read_bernoulli_exp 1 1) (λ _. one_shrinks) v p ws ∙ exp_as b 1 1 (λ one rest. cond one (outcome b (ones (suc v) rest) p) (p (v, false) rest)) ws

-- what follows u and a one of exp(-u/t)
abbrev pub signed_after : Bool → ℕ → ℕ → ℕ → (Option ℤ → List ℕ → Bool) → ℕ → List ℕ → Bool
signed_after b t s u p v rest = outcome b (read_bernoulli 1 2 rest) (λ negative last. p (signed_size negative ((u + t * v) / s)) last)

abbrev pub accepted : Bool → ℕ → ℕ → ℕ → (Option ℤ → List ℕ → Bool) → List ℕ → Bool
accepted b t s u p rest = outcome b (ones 0 rest) (λ zero last. signed_after b t s u p zero.0 last)

abbrev pub started : Bool → ℕ → ℕ → (Option ℤ → List ℕ → Bool) → ℕ → List ℕ → Bool
started b t s p u rest = outcome b (trials u t 1 rest) (λ zero last. cond (zero.0 % 2 == 1) (accepted b t s u p last) (p None last))

module _ (b : Bool) (t s : ℕ) (p : Option ℤ → List ℕ → Bool) where
  last : ℕ → ℕ → DrawReader (Option ℤ)
  last u v = then_read (read_bernoulli 1 2) (λ negative. give (signed_size negative ((u + t * v) / s)))

  middle : ℕ → Bool → DrawReader (Option ℤ)
  middle u goes_on = elim goes_on [ false ↦ give None | true ↦ then_read read_geometric (last u) ]

  whole : ℕ → DrawReader (Option ℤ)
  whole u = then_read (read_bernoulli_exp u t) (middle u)

  last_as : (u v : ℕ) (ws : List ℕ) → outcome b (last u v ws) p ≡ signed_after b t s u p v ws
  unfolding last
  last_as u v ws = outcome_then b (read_bernoulli 1 2) (λ negative. give (signed_size negative ((u + t * v) / s))) p ws

  geometric_as : (q : ℕ → List ℕ → Bool) (ws : List ℕ) → outcome b (read_geometric ws) q ≡ outcome b (ones 0 ws) (λ zero rest. q zero.0 rest)
  unfolding read_geometric
  geometric_as q ws = outcome_then b (ones 0) (λ zero. give zero.0) q ws

  middle_as : (u : ℕ) (goes_on : Bool) (ws : List ℕ) → outcome b (middle u goes_on ws) p ≡ cond goes_on (accepted b t s u p ws) (p None ws)
  unfolding middle
  middle_as u false ws = refl
  middle_as u true ws = outcome_then b read_geometric (last u) p ws ∙ (outcome_ext b (read_geometric ws) (λ v rest. outcome b (last u v rest) p) (λ v rest. signed_after b t s u p v rest) (λ v rest. last_as u v rest) ∙ geometric_as (λ v rest. signed_after b t s u p v rest) ws)

  whole_as : (u : ℕ) (ws : List ℕ) → outcome b (whole u ws) p ≡ started b t s p u ws
  unfolding whole
  whole_as u ws = outcome_then b (read_bernoulli_exp u t) (middle u) p ws
      ∙ (outcome_ext b (read_bernoulli_exp u t ws) (λ g rest. outcome b (middle u g rest) p) (λ g rest. cond g (accepted b t s u p rest) (p None rest)) (λ g rest. middle_as u g rest)
      ∙ exp_as b u t (λ g rest. cond g (accepted b t s u p rest) (p None rest)) ws)

  pub attempt_as : (ws : List ℕ) → outcome b (read_attempt t s ws) p ≡ outcome b (read_uniform t ws) (λ u rest. started b t s p u rest)
  unfolding read_attempt whole middle last
  attempt_as ws = outcome_then b (read_uniform t) whole p ws ∙ outcome_ext b (read_uniform t ws) (λ u rest. outcome b (whole u rest) p) (λ u rest. started b t s p u rest) whole_as

-- the sample from attempt k on
abbrev pub attempts_from : ℕ → ℕ → ℕ → DrawReader (ℕ × Option ℤ)
attempts_from t s k = read_run (λ _. read_attempt t s) is_none k

abbrev pub noise_from : ℕ → ℕ → ℕ → List ℕ → Option ℤ
noise_from t s k ws = noise_in (then_read (attempts_from t s k) (λ last. given last.1) ws)

attempt_shrinks : (t s : ℕ) → Shrinks (read_attempt t s)
attempt_shrinks t s = shrinks_from (attempt_reads t s) (attempt_takes t s)

abbrev pub then_again : ℕ → ℕ → (Option ℤ → Bool) → ℕ → Option ℤ → List ℕ → Bool
then_again t s test k None rest = test (noise_from t s (suc k) rest)
then_again t s test k (Some z) rest = test (Some z)

pub attempts_unroll : (t s k : ℕ) (test : Option ℤ → Bool) (ws : List ℕ) → test (noise_from t s k ws) ≡ outcome (test None) (read_attempt t s ws) (then_again t s test k)
attempts_unroll t s k test ws = go (read_attempt t s ws) refl
  where
    go : (o : Option (Option ℤ × List ℕ)) → read_attempt t s ws ≡ o → test (noise_from t s k ws) ≡ outcome (test None) (read_attempt t s ws) (then_again t s test k)
    go None e = ap (λ o. test (noise_in o)) (then_none (attempts_from t s k) (λ last. given last.1) ws (run_none (λ _. read_attempt t s) is_none (λ _. attempt_shrinks t s) k ws e)) ∙ sym (ap (λ o. outcome (test None) o (then_again t s test k)) e)
    go (Some (None, rest)) e =
        let same : attempts_from t s k ws ≡ attempts_from t s (suc k) rest = run_again (λ _. read_attempt t s) is_none (λ _. attempt_shrinks t s) k None ws rest e refl in
        ap (λ o. test (noise_in (elim o [ None ↦ None | Some found ↦ given found.0.1 found.1 ]))) same ∙ sym (ap (λ o. outcome (test None) o (then_again t s test k)) e)
    go (Some (Some z, rest)) e =
        ap (λ o. test (noise_in o)) (then_complete (attempts_from t s k) (λ last. given last.1) ws rest (k, Some z) (run_last (λ _. read_attempt t s) is_none (λ _. attempt_shrinks t s) k (Some z) ws rest e refl))
        ∙ sym (ap (λ o. outcome (test None) o (then_again t s test k)) e)

-- a noise's test, by the first attempt
pub noise_unroll : (t s k : ℕ) (test : Option ℤ → Bool) (ws : List ℕ) → test (noise_from t s k ws) ≡ outcome (test None) (read_uniform t ws) (λ u rest. started (test None) t s (then_again t s test k) u rest)
noise_unroll t s k test ws = attempts_unroll t s k test ws ∙ attempt_as (test None) t s (then_again t s test k) ws

pub whole_sample : (t s : ℕ) (ws : List ℕ) → noise_in (read_sample t s ws) ≡ noise_from t s 0 ws
unfolding read_sample
whole_sample t s ws = refl
