use Rattle.budget_core.proofs.Asks.{ask-from, ask-test}
use Rattle.budget_core.proofs.laws.asks_are_tested.Goals as goal

pub returns : goal.returns
returns c = λ entry ask. (ask-from entry ask, ask-test entry ask)
