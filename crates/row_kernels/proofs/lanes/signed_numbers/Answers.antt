use Rattle.std.proofs.Common.{arith}
use Rattle.std.proofs.lemmas.Grind.{common_steps}
use Rattle.row_kernels.proofs.lanes.signed_numbers.Goals as goal

pub add-requires : goal.add-requires
add-requires c = grind (arith, common_steps)

pub subtract-requires : goal.subtract-requires
subtract-requires c = grind (arith, common_steps)

pub at_most-requires-clause-a_long : goal.at_most-requires-clause-a_long
at_most-requires-clause-a_long c = grind (arith, common_steps)

pub at_most-requires-clause-b_long : goal.at_most-requires-clause-b_long
at_most-requires-clause-b_long c = grind (arith, common_steps)

pub equal-requires-clause-a_long : goal.equal-requires-clause-a_long
equal-requires-clause-a_long c = grind (arith, common_steps)

pub equal-requires-clause-b_long : goal.equal-requires-clause-b_long
equal-requires-clause-b_long c = grind (arith, common_steps)

pub returns-in_ok-shared-in-Plus : goal.returns-in_ok-shared-in-Plus
returns-in_ok-shared-in-Plus c = grind (arith, common_steps)

pub returns-in_ok-shared-in-Minus : goal.returns-in_ok-shared-in-Minus
returns-in_ok-shared-in-Minus c = grind (arith, common_steps)

pub returns-in_ok-shared_truths-in-AtMost : goal.returns-in_ok-shared_truths-in-AtMost
returns-in_ok-shared_truths-in-AtMost c = grind (arith, common_steps)

pub returns-in_ok-shared_truths-in-Equal : goal.returns-in_ok-shared_truths-in-Equal
returns-in_ok-shared_truths-in-Equal c = grind (arith, common_steps)
