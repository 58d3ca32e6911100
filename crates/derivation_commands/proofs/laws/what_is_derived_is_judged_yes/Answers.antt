use Rattle.derivation_commands.proofs.Yes.{yes_of_derived}
use Rattle.derivation_commands.proofs.laws.what_is_derived_is_judged_yes.Goals as goal

pub returns : goal.returns
returns c = yes_of_derived
