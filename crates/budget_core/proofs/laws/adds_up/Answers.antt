use Rattle.budget_core.proofs.Costs.{adds_up}
use Rattle.budget_core.proofs.laws.adds_up.Goals as goal

pub returns : goal.returns
returns c = λ entry records h. adds_up entry records h
