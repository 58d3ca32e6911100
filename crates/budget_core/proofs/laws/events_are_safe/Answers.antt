use Rattle.budget_core.proofs.EventLemmas.{events-safe}
use Rattle.budget_core.proofs.laws.events_are_safe.Goals as goal

pub returns : goal.returns
returns c = λ entry events valid. events-safe entry events valid
