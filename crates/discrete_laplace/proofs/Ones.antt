-- The loop that counts ones of exp(-1), one trial at a time.
use Rattle.std.proofs.Common.{◌≡◌, ◌∙◌, ap, ℕ, ◌+◌, Bool, true, false, List, Some, None, arith}
use Rattle.exact_bernoulli.specs.Readers.{DrawReader, give, read_run, read_bernoulli_exp}
use Rattle.exact_bernoulli.proofs.Exact.{then_complete, then_none, bernoulli_exp_reads, bernoulli_exp_takes}
use Rattle.exact_bernoulli.proofs.Runs.{Shrinks, shrinks_from, run_again, run_last, run_none}
use Rattle.discrete_laplace.specs.Readers.{read_geometric}

-- the ones of exp(-1) from number k on
abbrev pub ones_from : ℕ → DrawReader (ℕ × Bool)
ones_from k = read_run (λ _. read_bernoulli_exp 1 1) (λ one. one) k

one_shrinks : Shrinks (read_bernoulli_exp 1 1)
one_shrinks = shrinks_from (bernoulli_exp_reads 1 1) (bernoulli_exp_takes 1 1)

pub ones_more : (k : ℕ) (one : Bool) (before draws behind : List ℕ) → ones_from 0 before ≡ ones_from k draws → read_bernoulli_exp 1 1 draws ≡ Some (one, behind) → one ≡ true → ones_from 0 before ≡ ones_from (k + 1) behind
ones_more k one before draws behind e h y =
    e ∙ (run_again (λ _. read_bernoulli_exp 1 1) (λ one. one) (λ _. one_shrinks) k one draws behind h y ∙ ap (λ n. ones_from n behind) (omega arith))

pub ones_end : (k : ℕ) (one : Bool) (before draws behind : List ℕ) → ones_from 0 before ≡ ones_from k draws → read_bernoulli_exp 1 1 draws ≡ Some (one, behind) → one ≡ false → read_geometric before ≡ Some (k, behind)
unfolding read_geometric
ones_end k one before draws behind e h n =
    then_complete (ones_from 0) (λ zero. give zero.0) before behind (k, one) (e ∙ run_last (λ _. read_bernoulli_exp 1 1) (λ one. one) (λ _. one_shrinks) k one draws behind h n)

pub ones_none : (k : ℕ) (before draws : List ℕ) → ones_from 0 before ≡ ones_from k draws → read_bernoulli_exp 1 1 draws ≡ None → read_geometric before ≡ None
unfolding read_geometric
ones_none k before draws e h =
    then_none (ones_from 0) (λ zero. give zero.0) before (e ∙ run_none (λ _. read_bernoulli_exp 1 1) (λ one. one) (λ _. one_shrinks) k draws h)
