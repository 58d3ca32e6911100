use Rattle.budget_journal.proofs.Gates.{head-version}
use Rattle.budget_journal.proofs.laws.version_is_found.Goals as goal

pub returns : goal.returns
returns c = λ header records bytes stands. head-version header bytes stands.head
