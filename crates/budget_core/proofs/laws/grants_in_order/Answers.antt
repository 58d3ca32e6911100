use Rattle.budget_core.proofs.Numbers.{granted_in_order}
use Rattle.budget_core.proofs.laws.grants_in_order.Goals as goal

pub returns : goal.returns
returns c = λ entry records h. granted_in_order entry records h
