use Rattle.query_server.proofs.Lines.{outside_stays}
use Rattle.query_server.proofs.laws.outside_stays.Goals as goal

pub returns : goal.returns
returns c = outside_stays
