use Rattle.budget_core.proofs.totals.take_back.Goals as goal

pub returns-then-comes_back-clause-given : goal.returns-then-comes_back-clause-given
returns-then-comes_back-clause-given c charges rest stands back is = c.give_back.ensures.totals charges rest stands is
