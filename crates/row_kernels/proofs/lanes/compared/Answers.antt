use Rattle.std.proofs.Common.{arith}
use Rattle.std.proofs.lemmas.Grind.{common_steps}
use Rattle.row_kernels.proofs.lanes.compared.Goals as goal

pub returns-in-Least : goal.returns-in-Least
returns-in-Least c = grind (arith, common_steps)

pub returns-in-Greatest : goal.returns-in-Greatest
returns-in-Greatest c = grind (arith, common_steps)

pub lesser-requires-clause-a_long : goal.lesser-requires-clause-a_long
lesser-requires-clause-a_long c = grind (arith, common_steps)

pub lesser-requires-clause-b_long : goal.lesser-requires-clause-b_long
lesser-requires-clause-b_long c = grind (arith, common_steps)

pub greater-requires-clause-a_long : goal.greater-requires-clause-a_long
greater-requires-clause-a_long c = grind (arith, common_steps)

pub greater-requires-clause-b_long : goal.greater-requires-clause-b_long
greater-requires-clause-b_long c = grind (arith, common_steps)
