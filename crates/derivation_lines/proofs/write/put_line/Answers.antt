use Rattle.std.proofs.Common.{arith}
use Rattle.std.proofs.lemmas.Grind.{common_steps}
use Rattle.derivation_lines.proofs.write.put_line.Goals as goal

pub loop-said-init : goal.loop-said-init
loop-said-init c = grind (arith, common_steps)

pub loop-said-preserved : goal.loop-said-preserved
loop-said-preserved c = grind (arith, common_steps)

pub returns : goal.returns
returns c = grind (arith, common_steps)
