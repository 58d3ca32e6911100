use Rattle.metric_law.proofs.Worked.{function_premises, looser_scalar, two_datasets}
use Rattle.metric_law.proofs.premises_are_met.Goals as goal

pub returns-clause-datasets : goal.returns-clause-datasets
returns-clause-datasets c = two_datasets

pub returns-clause-function : goal.returns-clause-function
returns-clause-function c = function_premises

pub returns-clause-looser : goal.returns-clause-looser
returns-clause-looser c = looser_scalar
