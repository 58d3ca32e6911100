-- What is proved of the run without data.
use Rattle.std.specs.Prelude.{true, ℕ, ◌≤◌, ◌≡◌}
use Rattle.fz_frac.specs.Distance.{Distance}
use Rattle.fz_ast.specs.Limits.{TermLimits}
use Rattle.fz_ast.specs.Signature.{IsSignature, Signature}
use Rattle.fz_ast.specs.Terms.{Term}
use Rattle.fz_ast.specs.Types.{Ty, is_flat}
use Rattle.linear_types.specs.Program.{Accepted, sensitivity_of}
use Rattle.linear_types.specs.Sensitivities.{Sensitivities}
use Rattle.metric_law.specs.Means.{HasNumber}
use Rattle.metric_values.specs.Tables.{Dataset, IsDataset, rows_of}
use Rattle.row_functions.specs.RowFunctions.{IsRowFunction, RunsOnRows}
use Rattle.shape_law.specs.Shapes.{Shape, Shapes, table_shapes}
use Rattle.shape_law.specs.ShapeIn.{ShapeIn}
use Rattle.shape_law.specs.Walk.{Shaped, Tally, applied_shape, depth_limit, reach_limit, shape, start, turn_limit, walk, width_limit}

-- where an accepted program has a shape by a walk of some height, it has a number on each dataset by a derivation no higher
abbrev pub Planned : Type 0
Planned =
    (ts : Signature) (t : Term) (D : Sensitivities) (r : Distance) → IsSignature ts → TermLimits t → sensitivity_of ts t ≡ Accepted D r
    → (n : ℕ) (s : Shape) → ShapeIn n (table_shapes ts) t s → (X : Dataset) → IsDataset ts X → HasNumber n (rows_of ts X) t

-- a whole walk that stops nowhere is at most as high as the deepest visit that it tells, which is within its depths
abbrev pub WalksHaveHeights : Type 0
WalksHaveHeights =
    (left : ℕ) (σ : Shapes) (t : Term) (s : Shape) (k : Tally) → walk left 1 σ t start ≡ Shaped s k
    → ShapeIn k.depth σ t s × (k.depth ≤ left) × (k.turns ≤ turn_limit)

-- no limit is passed
pub record IsWithinLimits (depth turns width reach : ℕ) : Type 0 where
  pub deep : depth ≤ depth_limit
  pub long : turns ≤ turn_limit
  pub wide : width ≤ width_limit
  pub shallow : reach ≤ reach_limit

-- a program's run without data that stops nowhere is within the limits; no types are needed
abbrev pub PlansAreWithinLimits : Type 0
PlansAreWithinLimits = (ts : Signature) (t : Term) (s : Shape) (k : Tally) → shape ts t ≡ Shaped s k → IsWithinLimits k.depth k.turns k.width k.reach

-- an accepted program with a shape has a number on each dataset by a derivation no higher than the depth that is told
abbrev pub ShapedProgramsRun : Type 0
ShapedProgramsRun =
    (ts : Signature) (t : Term) (D : Sensitivities) (r : Distance) → IsSignature ts → TermLimits t → sensitivity_of ts t ≡ Accepted D r
    → (s : Shape) (k : Tally) → shape ts t ≡ Shaped s k → (X : Dataset) → IsDataset ts X → HasNumber k.depth (rows_of ts X) t

-- a function of rows that stops nowhere when it is applied to a row is within the limits, whatever its type
abbrev pub FunctionPlansAreWithinLimits : Type 0
FunctionPlansAreWithinLimits = (t : Term) (s : Shape) (k : Tally) → applied_shape t ≡ Shaped s k → IsWithinLimits k.depth k.turns k.width k.reach

-- a function of rows with a shape when it is applied runs on rows, by derivations no higher than the depth that is told
abbrev pub ShapedFunctionsRun : Type 0
ShapedFunctionsRun =
    (row : Ty) (t : Term) → is_flat row ≡ true → TermLimits t → IsRowFunction row t → (s : Shape) (k : Tally) → applied_shape t ≡ Shaped s k
    → RunsOnRows k.depth row t
