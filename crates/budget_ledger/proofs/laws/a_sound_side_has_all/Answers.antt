use Rattle.budget_ledger.proofs.Forks.{sound_side, open_by_one}
use Rattle.budget_ledger.proofs.laws.a_sound_side_has_all.Goals as goal

pub returns-clause-all : goal.returns-clause-all
returns-clause-all c = sound_side

pub returns-clause-open : goal.returns-clause-open
returns-clause-open c = open_by_one
