-- What a value, a scope or a chain of stages stands for, and how deep it is held. A bag that isn't walked yet holds functions, which what it
-- stands for doesn't show: so how deep it is held can't be told from that.
use Rattle.std.specs.Prelude.{List, ℕ}
use Rattle.metric_values.specs.Values.{Env, Value}
use Rattle.flow_values.specs.Steps.{Step}

pub record Held : Type 0 where
  pub means : Value
  pub deep : ℕ

pub record HeldScope : Type 0 where
  pub means : Env
  pub deep : ℕ

-- the steps of the stages, the first one first
pub record HeldChain : Type 0 where
  pub steps : List Step
  pub deep : ℕ
