use Rattle.metric_values.proofs.Metric.{apart_zero, zero_apart, apart_flips, apart_triangle}
use Rattle.metric_values.proofs.apart_is_a_metric.Goals as goal

pub returns-clause-zero : goal.returns-clause-zero
returns-clause-zero c = λ X Y e. (apart_zero X Y e, zero_apart X Y)

pub returns-clause-symmetric : goal.returns-clause-symmetric
returns-clause-symmetric c = apart_flips

pub returns-clause-triangle : goal.returns-clause-triangle
returns-clause-triangle c = apart_triangle
