use Rattle.session_laws.proofs.Growing.{growing, growing_from}
use Rattle.session_laws.proofs.laws.replies_are_on_growing_records.Goals as goal

pub returns-clause-found : goal.returns-clause-found
returns-clause-found c = growing

pub returns-clause-seen : goal.returns-clause-seen
returns-clause-seen c = growing_from
