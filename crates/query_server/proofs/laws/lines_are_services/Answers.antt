use Rattle.query_server.proofs.Lines.{lines_services}
use Rattle.query_server.proofs.laws.lines_are_services.Goals as goal

pub returns : goal.returns
returns c = lines_services
