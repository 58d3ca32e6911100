use Rattle.budget_core.proofs.Grants.{never-shared}
use Rattle.budget_core.proofs.laws.numbers_never_shared.Goals as goal

pub returns : goal.returns
returns c = never-shared
