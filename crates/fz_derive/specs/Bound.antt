-- What a number promises of a program, by meanings alone.
use Rattle.std.specs.Prelude.{ℤ}
use Rattle.fz_frac.specs.Distance.{Distance, Fin, mul, ◌⊑◌}
use Rattle.fz_ast.specs.Limits.{IsNumber}
use Rattle.fz_ast.specs.Signature.{Signature}
use Rattle.fz_ast.specs.Terms.{Term}
use Rattle.metric_values.specs.Distances.{gap}
use Rattle.metric_values.specs.Tables.{Dataset, IsDataset, apart, rows_of}
use Rattle.metric_values.specs.Values.{NumV}
use Rattle.term_meanings.specs.Means.{Means}

-- The program has a number on each dataset of the signature, and its numbers on two differ by at most r times how far the
-- datasets are apart.
pub record HasBound (ts : Signature) (e : Term) (r : Distance) : Type 0 where
  pub value : (X : Dataset) → IsDataset ts X → (z : ℤ) × Means (rows_of ts X) e (NumV z) × IsNumber z
  pub bound : (X Y : Dataset) → IsDataset ts X → IsDataset ts Y → (y z : ℤ)
      → Means (rows_of ts X) e (NumV y) → Means (rows_of ts Y) e (NumV z)
      → Fin (gap y z) 1 ⊑ mul r (Fin (apart X Y) 1)
