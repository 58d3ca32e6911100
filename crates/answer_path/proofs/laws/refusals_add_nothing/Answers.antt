use Rattle.answer_path.proofs.Idle.{add_nothing, leave_pass, leave_records}
use Rattle.answer_path.proofs.laws.refusals_add_nothing.Goals as goal

pub returns-clause-any : goal.returns-clause-any
returns-clause-any c = add_nothing

pub returns-clause-alone : goal.returns-clause-alone
returns-clause-alone c = leave_pass

pub returns-clause-exactly : goal.returns-clause-exactly
returns-clause-exactly c = leave_records
