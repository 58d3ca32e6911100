use Rattle.fz_frac.proofs.Lowest.{fits_at, inf_fits}
use Rattle.fz_frac.proofs.sens.Sens.add.Goals as goal

pub returns-in_default-clause-range : goal.returns-in_default-clause-range
returns-in_default-clause-range c = rw (c.in_default.is-0, c.in_default.is-1) (fits_at _ inf_fits)

pub returns-in_default-2-clause-range : goal.returns-in_default-2-clause-range
returns-in_default-2-clause-range c = rw c.in_default.is-0 (fits_at _ inf_fits)
