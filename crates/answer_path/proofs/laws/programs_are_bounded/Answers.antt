use Rattle.answer_path.proofs.Programs.{one_value, accepted_are_bounded, accepted_have_values}
use Rattle.answer_path.proofs.laws.programs_are_bounded.Goals as goal

pub returns-clause-value : goal.returns-clause-value
returns-clause-value c = accepted_have_values

pub returns-clause-one : goal.returns-clause-one
returns-clause-one c = one_value

pub returns-clause-bound : goal.returns-clause-bound
returns-clause-bound c = accepted_are_bounded
