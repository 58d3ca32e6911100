use Rattle.std.proofs.Common.{arith}
use Rattle.std.proofs.lemmas.Grind.{common_steps}
use Rattle.row_kernels.proofs.lanes.chosen.Goals as goal

pub choose_truths-requires-clause-mask_long : goal.choose_truths-requires-clause-mask_long
choose_truths-requires-clause-mask_long c = grind (arith, common_steps)

pub choose_truths-requires-clause-a_long : goal.choose_truths-requires-clause-a_long
choose_truths-requires-clause-a_long c = grind (arith, common_steps)

pub choose_truths-requires-clause-b_long : goal.choose_truths-requires-clause-b_long
choose_truths-requires-clause-b_long c = grind (arith, common_steps)

pub returns-in_ok-shared_truths-in-Truth-Truth : goal.returns-in_ok-shared_truths-in-Truth-Truth
returns-in_ok-shared_truths-in-Truth-Truth c = grind (arith, common_steps)
