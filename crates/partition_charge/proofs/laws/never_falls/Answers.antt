use Rattle.partition_charge.proofs.Charges.{never-falls}
use Rattle.partition_charge.proofs.laws.never_falls.Goals as goal

pub returns : goal.returns
returns c = λ charges next. never-falls charges next
