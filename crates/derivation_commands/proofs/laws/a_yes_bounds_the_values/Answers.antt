use Rattle.derivation_commands.proofs.Bounded.{yes_bounds}
use Rattle.derivation_commands.proofs.laws.a_yes_bounds_the_values.Goals as goal

pub returns : goal.returns
returns c = yes_bounds
