use Rattle.query_server.proofs.Causes.{disk_refusals_caused}
use Rattle.query_server.proofs.laws.disk_refusals_have_causes.Goals as goal

pub returns : goal.returns
returns c = disk_refusals_caused
