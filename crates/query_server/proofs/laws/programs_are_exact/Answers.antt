use Rattle.query_server.proofs.Lines.{programs_exact}
use Rattle.query_server.proofs.laws.programs_are_exact.Goals as goal

pub returns : goal.returns
returns c = programs_exact
