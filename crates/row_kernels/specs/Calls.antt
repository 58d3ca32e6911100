-- Functions that are called with lanes.
use Rattle.std.specs.Prelude.{◌≡◌, ◌<◌, ℕ, List, length}
use Rattle.fz_ast.specs.Terms.{Term}
use Rattle.fz_ast.specs.declared.term.Arrow.{Arrow}
use Rattle.fz_ast.specs.declared.term.Arrow.TheVariants.{Fun, Fn}
use Rattle.metric_law.specs.Means.{MeansIn}
use Rattle.metric_values.specs.Values.{BangV, Env, UnitV, Value}
use Rattle.flow_values.specs.Views.{closure_value}
use Rattle.flow_values.specs.declared.value.Closure.{Closure}
use Rattle.row_kernels.specs.declared.frames.Frame.{Frame}
use Rattle.row_kernels.specs.Lanes.{env_at}

-- whatever the term means for a row is this function
pub record IsCalled (fs : List Frame) (γ : Env) (t : Term) (c : Closure) : Type 0 where
  pub known : c.lambda < length c.nodes.value.terms
  pub each : (j m : ℕ) (v : Value) → MeansIn m (env_at fs γ j) t v → v ≡ closure_value c

-- whatever the term means as a function's argument, its name stands for what e means
abbrev pub IsArgument : Arrow → Term → Term → Type 0
IsArgument Fun t e = t ≡ e
IsArgument Fn t e = (γ : Env) (m : ℕ) (v : Value) → MeansIn m γ t v → (k : ℕ) × (u : Value) × MeansIn k γ e u × (v ≡ BangV u)

-- the term means () or nothing
abbrev pub IsUnitTerm : Term → Type 0
IsUnitTerm t = (γ : Env) (m : ℕ) (v : Value) → MeansIn m γ t v → v ≡ UnitV
