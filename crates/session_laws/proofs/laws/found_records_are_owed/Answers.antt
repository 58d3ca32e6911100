use Rattle.session_laws.proofs.Scripts.{all_found_owed, all_found_accounted}
use Rattle.session_laws.proofs.laws.found_records_are_owed.Goals as goal

pub returns-clause-owed : goal.returns-clause-owed
returns-clause-owed c = all_found_owed

pub returns-clause-accounted : goal.returns-clause-accounted
returns-clause-accounted c = all_found_accounted
