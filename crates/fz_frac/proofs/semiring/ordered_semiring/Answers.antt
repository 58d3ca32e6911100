use Rattle.fz_frac.proofs.Laws.{add-mono, add-comm, add-assoc, add-assoc', add-none, none-add, mul-mono, mul-comm, mul-assoc, mul-assoc', mul-add, mul-add', mul-one, one-mul, none-mul, none-least}
use Rattle.fz_frac.proofs.semiring.ordered_semiring.Goals as goal

pub returns-clause-add_is_associative : goal.returns-clause-add_is_associative
returns-clause-add_is_associative c = λ a b d. record { le = add-assoc a b d; ge = add-assoc' a b d }

pub returns-clause-add_is_commutative : goal.returns-clause-add_is_commutative
returns-clause-add_is_commutative c = λ a b. record { le = add-comm a b; ge = add-comm b a }

pub returns-clause-none_adds_nothing : goal.returns-clause-none_adds_nothing
returns-clause-none_adds_nothing c = λ a. record { le = add-none a; ge = none-add a }

pub returns-clause-mul_is_associative : goal.returns-clause-mul_is_associative
returns-clause-mul_is_associative c = λ a b d. record { le = mul-assoc a b d; ge = mul-assoc' a b d }

pub returns-clause-mul_is_commutative : goal.returns-clause-mul_is_commutative
returns-clause-mul_is_commutative c = λ a b. record { le = mul-comm a b; ge = mul-comm b a }

pub returns-clause-one_changes_nothing : goal.returns-clause-one_changes_nothing
returns-clause-one_changes_nothing c = λ a. record { le = mul-one a; ge = one-mul a }

pub returns-clause-mul_distributes : goal.returns-clause-mul_distributes
returns-clause-mul_distributes c = λ a b d. record { le = mul-add a b d; ge = mul-add' a b d }

pub returns-clause-none_times_any_is_none : goal.returns-clause-none_times_any_is_none
returns-clause-none_times_any_is_none c = λ a. record { le = none-mul a; ge = none-least _ }

pub returns-clause-add_keeps_order : goal.returns-clause-add_keeps_order
returns-clause-add_keeps_order c = add-mono

pub returns-clause-mul_keeps_order : goal.returns-clause-mul_keeps_order
returns-clause-mul_keeps_order c = mul-mono
