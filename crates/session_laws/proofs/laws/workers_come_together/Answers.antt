use Rattle.session_laws.proofs.Crew.{joined_gathered, together}
use Rattle.session_laws.proofs.Dealing.{in_some_order}
use Rattle.session_laws.proofs.laws.workers_come_together.Goals as goal

pub returns-clause-script : goal.returns-clause-script
returns-clause-script c = together

pub returns-clause-lines : goal.returns-clause-lines
returns-clause-lines c = joined_gathered

pub returns-clause-order : goal.returns-clause-order
returns-clause-order c = in_some_order
