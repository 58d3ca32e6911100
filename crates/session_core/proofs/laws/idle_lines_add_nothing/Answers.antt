use Rattle.session_core.proofs.Idle.{lines_add_nothing, lines_leave_passes}
use Rattle.session_core.proofs.laws.idle_lines_add_nothing.Goals as goal

pub returns-clause-any : goal.returns-clause-any
returns-clause-any c = lines_add_nothing

pub returns-clause-alone : goal.returns-clause-alone
returns-clause-alone c = lines_leave_passes
