use Rattle.budget_journal.proofs.One.{refused-for-others}
use Rattle.budget_journal.proofs.laws.refused_stands_for_none.Goals as goal

pub returns : goal.returns
returns c = λ header records bytes fault stands refused. refused-for-others header records bytes stands fault refused
