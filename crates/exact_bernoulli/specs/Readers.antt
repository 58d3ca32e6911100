-- The same numbers read from the left, for computing them: each reader tells what stands at the front of the draws, and
-- the draws behind it, or None where the draws run out. That these are the segments' is proved.
use Rattle.std.specs.Prelude.{ℕ, zero, suc, ◌*◌, ◌%◌, ◌==◌, nat_lt, Bool, true, false, List, [], ◌∷◌, length, Option, Some, None}
use Rattle.exact_bernoulli.specs.ExactBernoulli.{uniform_limit}

abbrev pub DrawReader : Type 0 → Type 0
DrawReader A = List ℕ → Option (A × List ℕ)

abbrev pub give : {A : Type 0} → A → DrawReader A
give a draws = Some (a, draws)

abbrev pub then_read : {A B : Type 0} → DrawReader A → (A → DrawReader B) → DrawReader B
then_read first second draws = elim (first draws) [ None ↦ None | Some found ↦ second found.0 found.1 ]

unfoldable pub read_uniform : ℕ → DrawReader ℕ
read_uniform m [] = None
read_uniform m (w ∷ draws) = elim (nat_lt w (uniform_limit m)) [ true ↦ Some (w % m, draws) | false ↦ read_uniform m draws ]

unfoldable pub read_bernoulli : ℕ → ℕ → DrawReader Bool
read_bernoulli n d = then_read (read_uniform d) (λ number. give (nat_lt number n))

-- Segments while they give what is `again`, at most so many, numbered from k on: the number and the value of the first other one.
abbrev pub read_run_within : {B : Type 0} → (ℕ → DrawReader B) → (B → Bool) → (most k : ℕ) → DrawReader (ℕ × B)
read_run_within read is_again zero k draws = None
read_run_within read is_again (suc most) k draws =
    then_read (read k) (λ b. elim (is_again b) [ true ↦ read_run_within read is_again most (suc k) | false ↦ give (k, b) ]) draws

-- A segment takes a draw at least.
unfoldable pub read_run : {B : Type 0} → (ℕ → DrawReader B) → (B → Bool) → (k : ℕ) → DrawReader (ℕ × B)
read_run read is_again k draws = read_run_within read is_again (length draws) k draws

unfoldable pub read_bernoulli_exp : ℕ → ℕ → DrawReader Bool
read_bernoulli_exp u t = then_read (read_run (λ k. read_bernoulli u (t * k)) (λ one. one) 1) (λ zero. give (zero.0 % 2 == 1))
