use Rattle.budget_ledger.proofs.Wents.{went_self}
use Rattle.budget_ledger.proofs.laws.a_state_follows_itself.Goals as goal

pub returns : goal.returns
returns c = went_self
