use Rattle.budget_ledger.proofs.Wents.{went_then}
use Rattle.budget_ledger.proofs.laws.states_follow_on.Goals as goal

pub returns : goal.returns
returns c = went_then
