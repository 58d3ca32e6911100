use Rattle.fz_frac.specs.Distance.{add}
use Rattle.fz_frac.specs.Sens.{distance_of}
use Rattle.derivation_rows.proofs.Amounts.{add_alike, number_by}
use Rattle.derivation_rows.proofs.numbers.sum.Goals as goal

pub returns : goal.returns
returns c = λ d e h k. number_by c.add.result (add (distance_of c.args.a) (distance_of c.args.b)) (add d e) (add_alike h k) c.add.ensures.exact c.add.ensures.range
