use Rattle.linear_types.proofs.Alike.{alike_trans, join_alike}
use Rattle.typing_rows.proofs.ranged.greatest.Goals as goal

pub returns-in-Ok : goal.returns-in-Ok
returns-in-Ok c = λ D E g h. alike_trans c.in-Ok.ensures.alike (join_alike g h)
