use Rattle.session_laws.proofs.Walks.{walks_gathered, walks_served}
use Rattle.session_laws.proofs.laws.walks_are_told.Goals as goal

pub returns-clause-served : goal.returns-clause-served
returns-clause-served c = walks_served

pub returns-clause-gathered : goal.returns-clause-gathered
returns-clause-gathered c = walks_gathered
