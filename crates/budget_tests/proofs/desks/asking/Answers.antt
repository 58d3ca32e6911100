use Rattle.std.proofs.Common.{refl, arith}
use Rattle.journal_records.proofs.Shapes.{digest-replicate}
use Rattle.budget_tests.proofs.desks.asking.Goals as goal

pub returns-clause-whole : goal.returns-clause-whole
returns-clause-whole c = (refl, refl, digest-replicate 0 (omega arith))
