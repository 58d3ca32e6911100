use Rattle.release_laws.proofs.Programs.{limits, plans, sensitivities, walks}
use Rattle.release_laws.proofs.numbers_change_no_judgement.Goals as goal

pub returns-clause-sensitivities : goal.returns-clause-sensitivities
returns-clause-sensitivities c = sensitivities

pub returns-clause-plans : goal.returns-clause-plans
returns-clause-plans c = plans

pub returns-clause-walks : goal.returns-clause-walks
returns-clause-walks c = walks

pub returns-clause-limits : goal.returns-clause-limits
returns-clause-limits c = limits
