use Rattle.fz_frac.specs.Sens.{distance_of}
use Rattle.linear_types.specs.Sensitivities.{scale}
use Rattle.linear_types.specs.Places.{distances}
use Rattle.linear_types.proofs.Alike.{scale_alike}
use Rattle.typing_rows.proofs.Given.{given_alike, refused_alike}
use Rattle.typing_rows.proofs.ranged.scaled_at.Goals as goal

pub returns-in-Ok : goal.returns-in-Ok
returns-in-Ok c = λ d D g h. given_alike c.in-Ok.v.items (scale (distance_of c.args.r) (distances c.args.a.now)) (scale d D) (scale_alike g h) c.in-Ok.ensures

pub returns-in-Err : goal.returns-in-Err
returns-in-Err c = λ d D g h. refused_alike c.args.s c.in-Err.fault c.fault_at.result (scale (distance_of c.args.r) (distances c.args.a.now)) (scale d D) c.fault_at.ensures (scale_alike g h) c.in-Err.ensures
