use Rattle.fz_derive.proofs.LeastDerived.{derived}
use Rattle.fz_derive.proofs.least.the_least_is_derived.Goals as goal

pub returns : goal.returns
returns c = derived
