use Rattle.std.proofs.Common.{arith}
use Rattle.journal_records.proofs.Shapes.{digest-replicate}
use Rattle.budget_tests.proofs.books.header_in.Goals as goal

pub returns-clause-valid : goal.returns-clause-valid
returns-clause-valid c = record { owner = omega arith; budget = omega arith; capacity = omega arith; digest = digest-replicate 1 (omega arith); version = (omega (arith, c.requires.version.0), omega (arith, c.requires.version.1)) }
