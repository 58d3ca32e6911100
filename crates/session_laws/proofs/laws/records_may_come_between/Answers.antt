use Rattle.session_laws.proofs.Betweens.{between}
use Rattle.session_laws.proofs.laws.records_may_come_between.Goals as goal

pub returns : goal.returns
returns c = between
