use Rattle.answer_path.proofs.Blind.{verdict_blind}
use Rattle.answer_path.proofs.laws.verdicts_see_no_answers.Goals as goal

pub returns : goal.returns
returns c = verdict_blind
