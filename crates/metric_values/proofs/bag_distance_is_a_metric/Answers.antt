use Rattle.metric_values.proofs.Removal.{differ_by, removal_least, zero_permuted, permuted_zero, removal_symmetric, removal_triangle}
use Rattle.metric_values.proofs.bag_distance_is_a_metric.Goals as goal

pub returns-clause-removal : goal.returns-clause-removal
returns-clause-removal c = λ xs ys. (differ_by xs ys, removal_least xs ys)

pub returns-clause-zero : goal.returns-clause-zero
returns-clause-zero c = λ xs ys. (zero_permuted xs ys, permuted_zero xs ys)

pub returns-clause-symmetric : goal.returns-clause-symmetric
returns-clause-symmetric c = removal_symmetric

pub returns-clause-triangle : goal.returns-clause-triangle
returns-clause-triangle c = removal_triangle
