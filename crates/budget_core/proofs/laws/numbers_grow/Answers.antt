use Rattle.budget_core.proofs.Grants.{numbers-grow}
use Rattle.budget_core.proofs.laws.numbers_grow.Goals as goal

pub returns : goal.returns
returns c = numbers-grow
