use Rattle.fz_frac.proofs.Lowest.{quotient_fits}
use Rattle.fz_frac.proofs.sens.Sens.div.Goals as goal

pub returns-in_default-2-clause-range : goal.returns-in_default-2-clause-range
returns-in_default-2-clause-range c = rw c.in_default.is-0 (quotient_fits c.args.other c.requires)
