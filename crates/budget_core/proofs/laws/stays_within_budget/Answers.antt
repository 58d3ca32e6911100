use Rattle.budget_core.proofs.LegalLemmas.{legal-cost}
use Rattle.budget_core.proofs.laws.stays_within_budget.Goals as goal

pub returns : goal.returns
returns c = λ entry found records base l. legal-cost entry found records base l
