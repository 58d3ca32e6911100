use Rattle.session_laws.proofs.Kept.{kept, owed}
use Rattle.session_laws.proofs.laws.gathered_records_are_kept.Goals as goal

pub returns-clause-kept : goal.returns-clause-kept
returns-clause-kept c = kept

pub returns-clause-owed : goal.returns-clause-owed
returns-clause-owed c = owed
