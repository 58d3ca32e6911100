use Rattle.answer_path.proofs.Alone.{alone_is_met, exactly_is_met}
use Rattle.answer_path.proofs.laws.lone_demands_are_met.Goals as goal

pub returns-clause-exact : goal.returns-clause-exact
returns-clause-exact c = alone_is_met

pub returns-clause-met : goal.returns-clause-met
returns-clause-met c = exactly_is_met
