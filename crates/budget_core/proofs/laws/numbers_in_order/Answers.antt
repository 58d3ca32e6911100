use Rattle.budget_core.proofs.Numbers.{numbered_in_order}
use Rattle.budget_core.proofs.laws.numbers_in_order.Goals as goal

pub returns : goal.returns
returns c = λ entry records h. numbered_in_order entry records h
