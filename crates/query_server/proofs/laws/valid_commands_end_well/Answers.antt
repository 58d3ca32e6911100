use Rattle.query_server.proofs.Valid.{valid_end_well}
use Rattle.query_server.proofs.laws.valid_commands_end_well.Goals as goal

pub returns : goal.returns
returns c = valid_end_well
