-- What is left to prove of rule_is_typing.
use Rattle.linear_types.proofs.Agree as agree
use Rattle.linear_types.proofs.rule_is_typing.Goals as goal

pub returns-clause-sound : goal.returns-clause-sound
returns-clause-sound c = agree.rule_is_sound

pub returns-clause-complete : goal.returns-clause-complete
returns-clause-complete c = agree.rule_is_complete

pub returns-clause-range : goal.returns-clause-range
returns-clause-range c = agree.rule_keeps_range
