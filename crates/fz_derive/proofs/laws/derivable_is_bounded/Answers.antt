use Rattle.fz_derive.proofs.Exactly.{derivable_has_bound, judged_has_bound}
use Rattle.fz_derive.proofs.laws.derivable_is_bounded.Goals as goal

pub returns-clause-derivable : goal.returns-clause-derivable
returns-clause-derivable c = derivable_has_bound

pub returns-clause-judged : goal.returns-clause-judged
returns-clause-judged c = judged_has_bound
