use Rattle.std.proofs.Common.{refl}
use Rattle.fz_frac.specs.Distance.{quotient}
use Rattle.fz_frac.specs.Sens.{distance_of}
use Rattle.fz_frac.proofs.Laws.{≈-refl, ≈-trans}
use Rattle.fz_frac.proofs.Lowest.{out_same, out_same_true, sens_fits}
use Rattle.linear_types.proofs.Alike.{quotient_alike}
use Rattle.typing_rows.proofs.ranged.quotient_at.Goals as goal

pub returns-in-Ok : goal.returns-in-Ok
returns-in-Ok c = λ d h.
    let r = distance_of c.args.r in
    let e = ≈-trans c.in-Ok.ensures (quotient_alike c.requires c.requires h (≈-refl r)) in
    (out_same (distance_of c.in-Ok.k) (quotient d r) e (sens_fits c.in-Ok.k), e)

pub returns-in-Err : goal.returns-in-Err
returns-in-Err c = λ d h.
    let r = distance_of c.args.r in
    (refl, out_same_true (quotient (distance_of c.args.a) r) (quotient d r) (quotient_alike c.requires c.requires h (≈-refl r)) c.in-Err.ensures)
