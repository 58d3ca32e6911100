use Rattle.owner_history.proofs.OneShown.{share_once, shown_once}
use Rattle.owner_history.proofs.laws.records_show_one_displacement.Goals as goal

pub returns-clause-all : goal.returns-clause-all
returns-clause-all c = shown_once

pub returns-clause-shares : goal.returns-clause-shares
returns-clause-shares c = share_once
