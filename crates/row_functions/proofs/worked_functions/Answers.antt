use Rattle.row_functions.proofs.Examples.{linear, longest, no_text, number, old, other_row, typed, unbound, used_thrice, young}
use Rattle.row_functions.proofs.worked_functions.Goals as goal

pub returns-clause-function : goal.returns-clause-function
returns-clause-function c = typed

pub returns-clause-young : goal.returns-clause-young
returns-clause-young c = young

pub returns-clause-old : goal.returns-clause-old
returns-clause-old c = old

pub returns-clause-longest : goal.returns-clause-longest
returns-clause-longest c = longest

pub returns-clause-other_row : goal.returns-clause-other_row
returns-clause-other_row c = other_row

pub returns-clause-no_text : goal.returns-clause-no_text
returns-clause-no_text c = no_text

pub returns-clause-linear : goal.returns-clause-linear
returns-clause-linear c = linear

pub returns-clause-used_thrice : goal.returns-clause-used_thrice
returns-clause-used_thrice c = used_thrice

pub returns-clause-unbound : goal.returns-clause-unbound
returns-clause-unbound c = unbound

pub returns-clause-number : goal.returns-clause-number
returns-clause-number c = number
