use Rattle.std.proofs.Common.{arith}
use Rattle.std.proofs.lemmas.Grind.{common_steps}
use Rattle.row_kernels.proofs.lanes.chosen_numbers.Goals as goal

pub choose-requires-clause-mask_long : goal.choose-requires-clause-mask_long
choose-requires-clause-mask_long c = grind (arith, common_steps)

pub choose-requires-clause-a_long : goal.choose-requires-clause-a_long
choose-requires-clause-a_long c = grind (arith, common_steps)

pub choose-requires-clause-b_long : goal.choose-requires-clause-b_long
choose-requires-clause-b_long c = grind (arith, common_steps)

pub returns : goal.returns
returns c = grind (arith, common_steps)
