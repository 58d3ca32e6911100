use Rattle.budget_journal.proofs.Gates.{live-is, no-stray}
use Rattle.budget_journal.proofs.laws.live_by_gates.Goals as goal

pub returns : goal.returns
returns c = λ capacity area n bytes small gates. (live-is capacity area bytes small gates, no-stray capacity area n bytes gates)
