use Rattle.session_laws.proofs.Once.{told_once}
use Rattle.session_laws.proofs.laws.each_record_is_told_once.Goals as goal

pub returns : goal.returns
returns c house draws count crew o owner found xs records here all = told_once house draws count crew o owner found xs records here all
