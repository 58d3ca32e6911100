use Rattle.query_server.proofs.Compared.{gaps_of_datasets}
use Rattle.query_server.proofs.laws.gaps_are_of_datasets.Goals as goal

pub returns : goal.returns
returns c = gaps_of_datasets
