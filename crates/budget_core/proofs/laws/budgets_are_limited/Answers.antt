use Rattle.budget_core.proofs.Costs.{limited}
use Rattle.budget_core.proofs.laws.budgets_are_limited.Goals as goal

pub returns : goal.returns
returns c = λ entry records valid h. limited entry records valid.budget h
