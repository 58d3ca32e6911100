use Rattle.session_core.proofs.Turns.{turns_known}
use Rattle.session_laws.proofs.Kept.{lines_kept, lines_owed, lines_came}
use Rattle.session_laws.proofs.laws.lines_keep_the_promises.Goals as goal

pub returns-clause-kept : goal.returns-clause-kept
returns-clause-kept c = lines_kept

pub returns-clause-owed : goal.returns-clause-owed
returns-clause-owed c = lines_owed

pub returns-clause-came_about : goal.returns-clause-came_about
returns-clause-came_about c = lines_came

pub returns-clause-scripts : goal.returns-clause-scripts
returns-clause-scripts c = turns_known
