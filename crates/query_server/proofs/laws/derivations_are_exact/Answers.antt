use Rattle.query_server.proofs.Lines.{derivations_exact}
use Rattle.query_server.proofs.laws.derivations_are_exact.Goals as goal

pub returns : goal.returns
returns c = derivations_exact
