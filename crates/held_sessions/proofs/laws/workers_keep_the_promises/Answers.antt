use Rattle.held_sessions.proofs.Together.{together, together_keep, together_owed}
use Rattle.held_sessions.proofs.laws.workers_keep_the_promises.Goals as goal

pub returns-clause-gathered : goal.returns-clause-gathered
returns-clause-gathered c = together

pub returns-clause-kept : goal.returns-clause-kept
returns-clause-kept c = together_keep

pub returns-clause-owed : goal.returns-clause-owed
returns-clause-owed c = together_owed
