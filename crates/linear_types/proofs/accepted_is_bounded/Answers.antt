-- What is left to prove of accepted_is_bounded.
use Rattle.linear_types.proofs.Scope as scope
use Rattle.linear_types.proofs.accepted_is_bounded.Goals as goal

pub returns-clause-scope : goal.returns-clause-scope
returns-clause-scope c = λ Γ e A D p. scope.within p

pub returns-clause-accepted : goal.returns-clause-accepted
returns-clause-accepted c = scope.accepted_is_bounded
