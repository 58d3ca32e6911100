use Rattle.fz_frac.proofs.Lowest.{gcd_one}
use Rattle.fz_frac.proofs.sens.Sens.whole.Goals as goal

pub invariant_of-result-clause-lowest : goal.invariant_of-result-clause-lowest
invariant_of-result-clause-lowest c = gcd_one c.args.n
