use Rattle.metric_law.proofs.Programs.{program_bound, program_value}
use Rattle.metric_law.proofs.programs_are_bounded.Goals as goal

pub returns-clause-value : goal.returns-clause-value
returns-clause-value c = program_value

pub returns-clause-bound : goal.returns-clause-bound
returns-clause-bound c = program_bound
