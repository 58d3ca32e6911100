use Rattle.budget_core.proofs.BareLemmas.{money_verdict-without_answers}
use Rattle.budget_core.proofs.laws.ignores_answers.Goals as goal

pub returns : goal.returns
returns c = λ entry start records ask. money_verdict-without_answers entry start records ask
