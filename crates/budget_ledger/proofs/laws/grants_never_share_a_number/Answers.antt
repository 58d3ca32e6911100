use Rattle.budget_ledger.proofs.Grants.{grants_apart}
use Rattle.budget_ledger.proofs.laws.grants_never_share_a_number.Goals as goal

pub returns : goal.returns
returns c = grants_apart
