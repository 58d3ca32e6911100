use Rattle.budget_journal.proofs.Geometry.{apart}
use Rattle.budget_journal.proofs.laws.areas_lie_apart.Goals as goal

pub returns : goal.returns
returns c = λ form capacity area later lt. apart form capacity area later lt
