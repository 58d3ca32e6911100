use Rattle.owner_history.proofs.Bounded.{explained_bounded, explained_shares}
use Rattle.owner_history.proofs.laws.explained_records_show_at_most_their_cost.Goals as goal

pub returns-clause-all : goal.returns-clause-all
returns-clause-all c = explained_bounded

pub returns-clause-shares : goal.returns-clause-shares
returns-clause-shares c = explained_shares
