use Rattle.query_server.proofs.Lines.{statuses_of_commands}
use Rattle.query_server.proofs.laws.statuses_are_of_commands.Goals as goal

pub returns : goal.returns
returns c = statuses_of_commands
