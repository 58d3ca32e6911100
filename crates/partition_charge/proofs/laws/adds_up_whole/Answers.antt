use Rattle.partition_charge.proofs.Charges.{adds-up-whole}
use Rattle.partition_charge.proofs.laws.adds_up_whole.Goals as goal

pub returns : goal.returns
returns c = λ charges all. adds-up-whole charges all
