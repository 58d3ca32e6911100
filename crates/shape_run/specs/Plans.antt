-- What the run without data tells of a whole program, and of a function of rows.
use Rattle.std.specs.Prelude.{◌≡◌}
use Rattle.fz_ast.specs.Signature.{Signature}
use Rattle.fz_ast.specs.Terms.{Term}
use Rattle.shape_law.specs.Shapes.{Shape}
use Rattle.shape_law.specs.Walk.{Shaped, applied_shape, shape}
use Rattle.shape_run.specs.Tells.{StopsAt, planned}
use Rattle.shape_run.specs.declared.plan.Plan.{Plan}
use Rattle.shape_run.specs.declared.plan.ShapeFault.{ShapeFault}

-- it passes no limit, is just so deep, long and wide, and takes just so many walks of bags, which aren't too many
abbrev pub IsPlanOf : Signature → Term → Plan → Type 0
IsPlanOf ts t plan = (s : Shape) × (shape ts t ≡ Shaped s (planned plan))

-- this is the first limit that it passes, at just this span and width, or it passes none and takes too many walks, or memory ran out
abbrev pub IsStopOf : Signature → Term → ShapeFault → Type 0
IsStopOf ts t fault = StopsAt fault (shape ts t)

-- alike of a function of rows, applied to a row
abbrev pub IsFunctionPlanOf : Term → Plan → Type 0
IsFunctionPlanOf t plan = (s : Shape) × (applied_shape t ≡ Shaped s (planned plan))

abbrev pub IsFunctionStopOf : Term → ShapeFault → Type 0
IsFunctionStopOf t fault = StopsAt fault (applied_shape t)
