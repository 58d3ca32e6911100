use Rattle.answer_path.proofs.Lost.{lost_are_charged}
use Rattle.answer_path.proofs.laws.lost_answers_are_charged.Goals as goal

pub returns : goal.returns
returns c = lost_are_charged
