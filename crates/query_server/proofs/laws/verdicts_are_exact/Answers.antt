use Rattle.query_server.proofs.Lines.{verdicts_exact}
use Rattle.query_server.proofs.laws.verdicts_are_exact.Goals as goal

pub returns : goal.returns
returns c = verdicts_exact
