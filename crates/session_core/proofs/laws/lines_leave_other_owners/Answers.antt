use Rattle.session_core.proofs.Others.{others_stay}
use Rattle.session_core.proofs.laws.lines_leave_other_owners.Goals as goal

pub returns : goal.returns
returns c = others_stay
