use Rattle.budget_ledger.proofs.Forks.{sides_ordered}
use Rattle.budget_ledger.proofs.laws.sides_never_fork.Goals as goal

pub returns : goal.returns
returns c = sides_ordered
