use Rattle.std.proofs.Common.{◌+◌, ◌*◌}
use Rattle.budget_tests.proofs.clerks.+by_many+fn-by_many-join_mut+arg2+fn-by_many-join_mut+arg3.Given as goal

abbrev pub decreases-by_many : goal.decreases-by_many
decreases-by_many g l = 2 * l.count

abbrev pub decreases-join_mut+arg2 : goal.decreases-join_mut+arg2
decreases-join_mut+arg2 g l = 2 * l.kept + 1

abbrev pub decreases-join_mut+arg3 : goal.decreases-join_mut+arg3
decreases-join_mut+arg3 g l = 2 * l.given + 1
