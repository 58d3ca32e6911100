use Rattle.service_workers.proofs.Posted.{first_taken}
use Rattle.service_workers.proofs.crew.hire.Goals as goal

pub returns-clause-door : goal.returns-clause-door
returns-clause-door g c = first_taken _ _ _ c.requires.door c.remove.ensures.value c.remove.ensures.by_index.2
