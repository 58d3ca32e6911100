-- What is left to prove of types_are_unique.
use Rattle.linear_types.proofs.Agree.{unique}
use Rattle.linear_types.proofs.Bare.{spans_change_no_typing}
use Rattle.linear_types.proofs.Quotient.{quotient_is_least, quotient_suffices}
use Rattle.linear_types.proofs.Written.{written}
use Rattle.linear_types.proofs.types_are_unique.Goals as goal

pub returns-clause-unique : goal.returns-clause-unique
returns-clause-unique c = λ Γ e A B D E p q. unique p q

pub returns-clause-spans : goal.returns-clause-spans
returns-clause-spans c = spans_change_no_typing

pub returns-clause-written : goal.returns-clause-written
returns-clause-written c = λ Γ e A D t p. written t p

pub returns-clause-quotient : goal.returns-clause-quotient
returns-clause-quotient c = quotient_suffices

pub returns-clause-least : goal.returns-clause-least
returns-clause-least c = quotient_is_least
