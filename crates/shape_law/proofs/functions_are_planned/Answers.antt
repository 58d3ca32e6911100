use Rattle.shape_law.proofs.Functions.{function_limits, function_runs}
use Rattle.shape_law.proofs.functions_are_planned.Goals as goal

pub returns-clause-limits : goal.returns-clause-limits
returns-clause-limits c = function_limits

pub returns-clause-runs : goal.returns-clause-runs
returns-clause-runs c = function_runs
