use Rattle.held_sessions.proofs.Written.{written_out, whole_written}
use Rattle.held_sessions.proofs.laws.replies_are_written_out.Goals as goal

pub returns-clause-out : goal.returns-clause-out
returns-clause-out c = written_out

pub returns-clause-whole : goal.returns-clause-whole
returns-clause-whole c = whole_written
