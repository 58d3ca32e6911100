use Rattle.budget_core.proofs.Histories.{legal-history}
use Rattle.budget_core.proofs.laws.stays_history.Goals as goal

pub returns : goal.returns
returns c = λ entry found records h l. legal-history entry found records h l
