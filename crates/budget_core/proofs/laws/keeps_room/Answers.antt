use Rattle.budget_core.proofs.LegalLemmas.{legal-room}
use Rattle.budget_core.proofs.laws.keeps_room.Goals as goal

pub returns : goal.returns
returns c = λ entry records l. legal-room entry records l
