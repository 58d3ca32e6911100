use Rattle.value_distance.proofs.Ordered.{element_cmp_total, element_tie}
use Rattle.value_distance.proofs.order.elements_are_ordered.Goals as goal

pub returns-clause-total : goal.returns-clause-total
returns-clause-total c = element_cmp_total

pub returns-clause-ties : goal.returns-clause-ties
returns-clause-ties c = element_tie
