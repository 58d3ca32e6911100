use Rattle.served_sessions.proofs.Runs.{stopped_at, stopped_pending, file_stands}
use Rattle.served_sessions.proofs.laws.stops_leave_what_was_told.Goals as goal

pub returns-clause-next : goal.returns-clause-next
returns-clause-next c = stopped_at

pub returns-clause-pending : goal.returns-clause-pending
returns-clause-pending c = stopped_pending

pub returns-clause-files : goal.returns-clause-files
returns-clause-files c = file_stands
