use Rattle.query_server.proofs.Lines.{runs_answered}
use Rattle.query_server.proofs.laws.runs_are_answered.Goals as goal

pub returns : goal.returns
returns c = runs_answered
