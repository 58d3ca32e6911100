use Rattle.query_server.proofs.Lines.{lines_headlines}
use Rattle.query_server.proofs.laws.lines_are_headlines.Goals as goal

pub returns : goal.returns
returns c = lines_headlines
