-- A trial, and the loop over trials of the code, one at a time.
use Rattle.std.proofs.Common.{◌≡◌, ◌∙◌, ap, ℕ, ◌+◌, ◌*◌, ◌%◌, Bool, true, false, List, Some, None, arith}
use Rattle.std.specs.Prelude.{◌==◌, nat_lt}
use Rattle.exact_bernoulli.specs.Readers.{DrawReader, give, read_uniform, read_run, read_bernoulli, read_bernoulli_exp}
use Rattle.exact_bernoulli.proofs.Exact.{then_complete, then_none, bernoulli_reads, bernoulli_takes}
use Rattle.exact_bernoulli.proofs.Runs.{Shrinks, shrinks_from, run_again, run_last, run_none}

-- one trial
pub bernoulli_found : (n d number : ℕ) (before behind : List ℕ) → read_uniform d before ≡ Some (number, behind) → read_bernoulli n d before ≡ Some (nat_lt number n, behind)
unfolding read_bernoulli
bernoulli_found n d number before behind e = then_complete (read_uniform d) (λ number. give (nat_lt number n)) before behind number e

pub bernoulli_none : (n d : ℕ) (before : List ℕ) → read_uniform d before ≡ None → read_bernoulli n d before ≡ None
unfolding read_bernoulli
bernoulli_none n d before e = then_none (read_uniform d) (λ number. give (nat_lt number n)) before e

-- the trials of u/(t*k) from number k on
abbrev pub trials_from : ℕ → ℕ → ℕ → DrawReader (ℕ × Bool)
trials_from u t k = read_run (λ k. read_bernoulli u (t * k)) (λ one. one) k

trial_shrinks : (u t k : ℕ) → Shrinks (read_bernoulli u (t * k))
trial_shrinks u t k = shrinks_from (bernoulli_reads u (t * k)) (bernoulli_takes u (t * k))

pub trials_more : (u t k : ℕ) (one : Bool) (before draws behind : List ℕ) → trials_from u t 1 before ≡ trials_from u t k draws → read_bernoulli u (t * k) draws ≡ Some (one, behind) → one ≡ true → trials_from u t 1 before ≡ trials_from u t (k + 1) behind
trials_more u t k one before draws behind e h y =
    e ∙ (run_again (λ k. read_bernoulli u (t * k)) (λ one. one) (trial_shrinks u t) k one draws behind h y ∙ ap (λ n. trials_from u t n behind) (omega arith))

pub trials_end : (u t k : ℕ) (one : Bool) (before draws behind : List ℕ) → trials_from u t 1 before ≡ trials_from u t k draws → read_bernoulli u (t * k) draws ≡ Some (one, behind) → one ≡ false → read_bernoulli_exp u t before ≡ Some (k % 2 == 1, behind)
unfolding read_bernoulli_exp
trials_end u t k one before draws behind e h n =
    then_complete (trials_from u t 1) (λ zero. give (zero.0 % 2 == 1)) before behind (k, one) (e ∙ run_last (λ k. read_bernoulli u (t * k)) (λ one. one) (trial_shrinks u t) k one draws behind h n)

pub trials_none : (u t k : ℕ) (before draws : List ℕ) → trials_from u t 1 before ≡ trials_from u t k draws → read_bernoulli u (t * k) draws ≡ None → read_bernoulli_exp u t before ≡ None
unfolding read_bernoulli_exp
trials_none u t k before draws e h =
    then_none (trials_from u t 1) (λ zero. give (zero.0 % 2 == 1)) before (e ∙ run_none (λ k. read_bernoulli u (t * k)) (λ one. one) (trial_shrinks u t) k draws h)
