use Rattle.fz_frac.proofs.Laws.{⊑-trans, greater-left, greater-right, greater-least, ◌⨾◌}
use Rattle.fz_frac.proofs.semiring.order.Goals as goal

pub returns-clause-transitive : goal.returns-clause-transitive
returns-clause-transitive c = ⊑-trans

pub returns-clause-greater_is_least_bound : goal.returns-clause-greater_is_least_bound
returns-clause-greater_is_least_bound c = λ a b d. ((λ h. (greater-left a b ⨾ h, greater-right a b ⨾ h)), (λ h. greater-least a b d h.0 h.1))
