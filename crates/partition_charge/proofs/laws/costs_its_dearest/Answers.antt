use Rattle.partition_charge.proofs.Charges.{costs-its-dearest}
use Rattle.partition_charge.proofs.laws.costs_its_dearest.Goals as goal

pub returns : goal.returns
returns c = λ charges next. costs-its-dearest charges next
