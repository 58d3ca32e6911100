use Rattle.answer_path.proofs.Alone.{alone_is_answered}
use Rattle.answer_path.proofs.Sole.{one_pass_closes}
use Rattle.answer_path.proofs.laws.lone_asks_are_answered.Goals as goal

pub returns-clause-answered : goal.returns-clause-answered
returns-clause-answered c = alone_is_answered

pub returns-clause-closes : goal.returns-clause-closes
returns-clause-closes c = one_pass_closes
