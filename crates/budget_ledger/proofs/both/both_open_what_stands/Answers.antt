use Rattle.budget_ledger.proofs.BothOpens.{both_stand}
use Rattle.budget_ledger.proofs.both.both_open_what_stands.Goals as goal

pub returns : goal.returns
returns c = both_stand
