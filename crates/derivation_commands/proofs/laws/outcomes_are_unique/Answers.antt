use Rattle.derivation_commands.proofs.Unique.{one_outcome}
use Rattle.derivation_commands.proofs.laws.outcomes_are_unique.Goals as goal

pub returns : goal.returns
returns c = one_outcome
