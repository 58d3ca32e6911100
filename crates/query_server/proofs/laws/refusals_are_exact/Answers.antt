use Rattle.query_server.proofs.Lines.{refusals_exact}
use Rattle.query_server.proofs.laws.refusals_are_exact.Goals as goal

pub returns : goal.returns
returns c = refusals_exact
