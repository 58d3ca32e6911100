-- The same numbers read from the left, for computing them: each reader tells what stands at the front of the draws, and
-- the draws behind it, or None where the draws run out. That these are the segments' is proved.
use Rattle.std.specs.Prelude.{ℕ, ◌+◌, ◌*◌, ◌/◌, true, false, Option, Some, None, is_none, ℤ}
use Rattle.exact_bernoulli.specs.Readers.{DrawReader, give, then_read, read_uniform, read_bernoulli, read_run, read_bernoulli_exp}
use Rattle.discrete_laplace.specs.DiscreteLaplace.{signed_size}

-- How many ones of exp(-1) stand before the first zero.
unfoldable pub read_geometric : DrawReader ℕ
read_geometric = then_read (read_run (λ _. read_bernoulli_exp 1 1) (λ one. one) 0) (λ zero. give zero.0)

unfoldable pub read_attempt : ℕ → ℕ → DrawReader (Option ℤ)
read_attempt t s =
    then_read (read_uniform t) λ u. then_read (read_bernoulli_exp u t) λ goes_on. elim goes_on [
      | false ↦ give None
      | true ↦ then_read read_geometric λ v. then_read (read_bernoulli 1 2) λ negative. give (signed_size negative ((u + t * v) / s))
    ]

-- what a last attempt gives
abbrev pub given : Option ℤ → DrawReader ℤ
given None draws = None
given (Some noise) draws = Some (noise, draws)

unfoldable pub read_sample : ℕ → ℕ → DrawReader ℤ
read_sample t s = then_read (read_run (λ _. read_attempt t s) is_none 0) (λ last. given last.1)
