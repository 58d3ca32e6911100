use Rattle.budget_ledger.proofs.BothOpens.{both_longer}
use Rattle.budget_ledger.proofs.both.both_find_the_longer.Goals as goal

pub returns : goal.returns
returns c = both_longer
