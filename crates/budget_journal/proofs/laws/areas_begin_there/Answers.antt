use Rattle.budget_journal.proofs.Geometry.{begins}
use Rattle.budget_journal.proofs.laws.areas_begin_there.Goals as goal

pub returns : goal.returns
returns c = λ capacity area is. begins capacity area is
