-- What a program's number on one dataset says of its numbers on the others.
use Rattle.std.specs.Prelude.{ℤ}
use Rattle.fz_ast.specs.Limits.{IsNumber}
use Rattle.fz_ast.specs.Signature.{Signature}
use Rattle.fz_ast.specs.Terms.{Term}
use Rattle.fz_frac.specs.Distance.{Fin, mul, ◌⊑◌}
use Rattle.fz_frac.specs.Sens.{distance_of}
use Rattle.fz_frac.specs.declared.sens.Sens.{Sens}
use Rattle.metric_law.specs.Means.{Means}
use Rattle.metric_values.specs.Distances.{gap}
use Rattle.metric_values.specs.Tables.{Dataset, IsDataset, apart, rows_of}
use Rattle.metric_values.specs.Values.{NumV}

-- on each dataset U of the signature the program has a number, and it differs from z by at most r times how far X and U are apart
abbrev pub IsNearEachOther : Signature → Term → Sens → Dataset → ℤ → Type 0
IsNearEachOther ts e r X z =
    (U : Dataset) → IsDataset ts U
    → (w : ℤ) × Means (rows_of ts U) e (NumV w) × IsNumber w × (Fin (gap z w) 1 ⊑ mul (distance_of r) (Fin (apart X U) 1))
