use Rattle.metric_values.proofs.Metric.{zero_same, same_zero, symmetric, triangle}
use Rattle.metric_values.proofs.distance_is_a_metric.Goals as goal

pub returns-clause-zero : goal.returns-clause-zero
returns-clause-zero c = λ A v w l. (zero_same A v w l, same_zero A v w)

pub returns-clause-symmetric : goal.returns-clause-symmetric
returns-clause-symmetric c = symmetric

pub returns-clause-triangle : goal.returns-clause-triangle
returns-clause-triangle c = triangle
