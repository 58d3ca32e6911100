use Rattle.query_server.proofs.Lines.{lines_exact}
use Rattle.query_server.proofs.laws.lines_are_exact.Goals as goal

pub returns : goal.returns
returns c = lines_exact
