use Rattle.fz_frac.specs.Sens.{distance_of}
use Rattle.fz_frac.proofs.Laws.{≈-refl}
use Rattle.fz_frac.proofs.Lowest.{sens_fits}
use Rattle.derivation_rows.proofs.row_names.quotient.Goals as goal

pub returns-in-Inf : goal.returns-in-Inf
returns-in-Inf c = let k = c.over_all.result in rw (c.in-Inf.is, ← c.over_all.ensures) (sens_fits k, ≈-refl (distance_of k))
