use Rattle.held_sessions.proofs.Rows.{row_served, row_turns, row_known}
use Rattle.held_sessions.proofs.laws.sessions_follow_on.Goals as goal

pub returns-clause-served : goal.returns-clause-served
returns-clause-served c = row_served

pub returns-clause-turns : goal.returns-clause-turns
returns-clause-turns c = row_turns

pub returns-clause-known : goal.returns-clause-known
returns-clause-known c = row_known
