use Rattle.least_derivation.proofs.Judged.{judged}
use Rattle.least_derivation.proofs.laws.derived_is_judged.Goals as goal

pub returns : goal.returns
returns c = judged
