use Rattle.least_derivation.proofs.LeastRule.{rules_least}
use Rattle.least_derivation.proofs.laws.rules_are_least.Goals as goal

pub returns : goal.returns
returns c = rules_least
