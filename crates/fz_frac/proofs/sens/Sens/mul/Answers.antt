use Rattle.fz_frac.proofs.Lowest.{fits_at, inf_fits, endless_fits}
use Rattle.fz_frac.proofs.sens.Sens.mul.Goals as goal

pub returns-in-Finite-Inf-clause-range : goal.returns-in-Finite-Inf-clause-range
returns-in-Finite-Inf-clause-range c = rw (c.in-Finite-Inf.is-0, c.in-Finite-Inf.is-1) (fits_at _ (endless_fits _))

pub returns-in-Inf-Finite-clause-range : goal.returns-in-Inf-Finite-clause-range
returns-in-Inf-Finite-clause-range c = rw (c.in-Inf-Finite.is-0, c.in-Inf-Finite.is-1) (fits_at _ (endless_fits _))

pub returns-in-Inf-Inf-clause-range : goal.returns-in-Inf-Inf-clause-range
returns-in-Inf-Inf-clause-range c = rw (c.in-Inf-Inf.is-0, c.in-Inf-Inf.is-1) (fits_at _ inf_fits)
