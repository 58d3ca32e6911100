use Rattle.budget_journal.proofs.Geometry.{one-last}
use Rattle.budget_journal.proofs.laws.one_last_area.Goals as goal

pub returns : goal.returns
returns c = λ form capacity area other a b. one-last form capacity area other a b
