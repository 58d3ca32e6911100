use Rattle.session_laws.proofs.Causes.{caused}
use Rattle.session_laws.proofs.laws.disk_refusals_have_causes.Goals as goal

pub returns : goal.returns
returns c house draws count crew o xs closed all = caused house draws o count crew xs closed all
