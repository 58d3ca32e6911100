use Rattle.std.proofs.Common.{arith}
use Rattle.std.proofs.lemmas.Grind.{common_steps}
use Rattle.owner_catalog.proofs.catalog.row_of.Goals as goal

pub loop-column-preserved : goal.loop-column-preserved
loop-column-preserved c = grind (arith, common_steps)

pub row_type-requires : goal.row_type-requires
row_type-requires c = grind (arith, common_steps)

pub returns-clause-row : goal.returns-clause-row
returns-clause-row c = grind (arith, common_steps)
