use Rattle.fz_frac.specs.Distance.{Inf}
use Rattle.fz_frac.proofs.Laws.{≈-refl}
use Rattle.linear_types.proofs.Alike.{alike_trans, scale_alike}
use Rattle.typing_rows.proofs.ranged.endless.Goals as goal

pub returns-in-Ok : goal.returns-in-Ok
returns-in-Ok c = λ D h. alike_trans c.in-Ok.ensures.alike (scale_alike (≈-refl Inf) h)
