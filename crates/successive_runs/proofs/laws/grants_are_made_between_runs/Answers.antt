use Rattle.successive_runs.proofs.Raised.{granted_leaves, unwritten_leaves}
use Rattle.successive_runs.proofs.laws.grants_are_made_between_runs.Goals as goal

pub returns-clause-made : goal.returns-clause-made
returns-clause-made c one amount old new status text valid done ok = granted_leaves one amount old new status text valid done ok

pub returns-clause-unwritten : goal.returns-clause-unwritten
returns-clause-unwritten c one amount old new valid fails = unwritten_leaves one amount old new valid fails
