use Rattle.query_server.proofs.Bounded.{gaps_bounded}
use Rattle.query_server.proofs.laws.gaps_are_bounded.Goals as goal

pub returns : goal.returns
returns c = gaps_bounded
