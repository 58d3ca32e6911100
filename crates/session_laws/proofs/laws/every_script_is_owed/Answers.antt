use Rattle.session_laws.proofs.Scripts.{owed_of}
use Rattle.session_laws.proofs.laws.every_script_is_owed.Goals as goal

pub returns : goal.returns
returns c = owed_of
