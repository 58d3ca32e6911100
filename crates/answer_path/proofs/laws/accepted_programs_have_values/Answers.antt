use Rattle.answer_path.proofs.Charged.{charged_are_bounded, charged_have_values}
use Rattle.answer_path.proofs.laws.accepted_programs_have_values.Goals as goal

pub returns-clause-value : goal.returns-clause-value
returns-clause-value c = charged_have_values

pub returns-clause-bound : goal.returns-clause-bound
returns-clause-bound c = charged_are_bounded
