use Rattle.session_laws.proofs.Orders.{least_code_refuses, grants_are_unopposed}
use Rattle.session_laws.proofs.laws.the_least_code_refuses.Goals as goal

pub returns-clause-least : goal.returns-clause-least
returns-clause-least c = least_code_refuses

pub returns-clause-granted : goal.returns-clause-granted
returns-clause-granted c = grants_are_unopposed
