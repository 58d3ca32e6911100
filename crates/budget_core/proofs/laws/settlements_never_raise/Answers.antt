use Rattle.budget_core.proofs.Costs.{cost_of-le-Settle}
use Rattle.budget_core.proofs.laws.settlements_never_raise.Goals as goal

pub returns : goal.returns
returns c = λ entry records settlement. cost_of-le-Settle entry records settlement.number settlement.outcome settlement.returned
