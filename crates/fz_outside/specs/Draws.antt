-- Draws: an endless sequence of numbers below 2 ^ 64, taken one after another.
use Rattle.std.specs.Prelude.{◌≡◌, ℕ, zero, suc, ◌+◌, List, [], ◌∷◌, min, unwrap_or, slice_get}
use Rattle.fz_outside.specs.Faults.{last_count}

-- the sequence that is left of another after its first k terms
abbrev pub draws_after : ℕ → (ℕ → ℕ) → ℕ → ℕ
draws_after k draws = λ i. draws (i + k)

-- the first k terms, as a list
abbrev pub first_draws : ℕ → (ℕ → ℕ) → List ℕ
first_draws zero draws = []
first_draws (suc k) draws = draws 0 ∷ first_draws k (draws_after 1 draws)

-- From old to new exactly k draws were taken: what is to come is what was to come behind them, and the place is k further.
pub record HasDrawn {W : Type 0} (draws : W → ℕ → ℕ) (place : W → ℕ) (k : ℕ) (old new : W) : Type 0 where
  pub rest : draws new ≡ draws_after k (draws old)
  pub counted : place new ≡ min (place old + k) last_count

-- a list, and then 0 for ever
abbrev pub padded : List ℕ → ℕ → ℕ
padded items i = unwrap_or (slice_get items i) 0
