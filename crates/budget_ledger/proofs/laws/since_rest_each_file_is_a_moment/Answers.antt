use Rattle.budget_ledger.proofs.Opens.{went_from_rest}
use Rattle.budget_ledger.proofs.laws.since_rest_each_file_is_a_moment.Goals as goal

pub returns : goal.returns
returns c = went_from_rest
