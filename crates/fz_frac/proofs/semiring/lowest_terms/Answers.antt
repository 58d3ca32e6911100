use Rattle.fz_frac.proofs.Laws.{quotient-le, le-quotient, ceiling}
use Rattle.fz_frac.proofs.Lowest.{gcd_is, same_form, out_or_narrow, not_both, sens_fits, sens_lowest}
use Rattle.fz_frac.proofs.semiring.lowest_terms.Goals as goal

pub returns-clause-greatest_divisor : goal.returns-clause-greatest_divisor
returns-clause-greatest_divisor c = gcd_is

pub returns-clause-one_form : goal.returns-clause-one_form
returns-clause-one_form c = same_form

pub returns-clause-in_range : goal.returns-clause-in_range
returns-clause-in_range c = out_or_narrow

pub returns-clause-out_of_range : goal.returns-clause-out_of_range
returns-clause-out_of_range c = not_both

pub returns-clause-quotient_is_least : goal.returns-clause-quotient_is_least
returns-clause-quotient_is_least c = λ a k r s h. (quotient-le a k r s h, le-quotient a k r s h)

pub returns-clause-ceiling_is_least : goal.returns-clause-ceiling_is_least
returns-clause-ceiling_is_least c = ceiling

pub returns-clause-kept_in_range : goal.returns-clause-kept_in_range
returns-clause-kept_in_range c = sens_fits

pub returns-clause-kept_lowest : goal.returns-clause-kept_lowest
returns-clause-kept_lowest c = sens_lowest
