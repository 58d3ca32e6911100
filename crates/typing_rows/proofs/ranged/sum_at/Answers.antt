use Rattle.linear_types.specs.Sensitivities.{plus}
use Rattle.linear_types.specs.Places.{distances}
use Rattle.linear_types.proofs.Alike.{plus_alike}
use Rattle.typing_rows.proofs.Given.{given_alike, refused_alike}
use Rattle.typing_rows.proofs.ranged.sum_at.Goals as goal

pub returns-in-Ok : goal.returns-in-Ok
returns-in-Ok c = λ D E g h. given_alike c.in-Ok.v.items (plus (distances c.args.a.now) (distances c.args.b.now)) (plus D E) (plus_alike g h) c.in-Ok.ensures

pub returns-in-Err : goal.returns-in-Err
returns-in-Err c = λ D E g h. refused_alike c.args.s c.in-Err.fault c.fault_at.result (plus (distances c.args.a.now) (distances c.args.b.now)) (plus D E) c.fault_at.ensures (plus_alike g h) c.in-Err.ensures
