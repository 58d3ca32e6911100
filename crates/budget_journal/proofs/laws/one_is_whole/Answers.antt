use Rattle.budget_journal.proofs.One.{one-whole}
use Rattle.budget_journal.proofs.laws.one_is_whole.Goals as goal

pub returns : goal.returns
returns c = λ header records bytes stands one. one-whole header records bytes stands one
