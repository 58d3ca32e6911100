use Rattle.served_sessions.proofs.Services.{services_caused, services_go_on, services_runs}
use Rattle.served_sessions.proofs.laws.services_are_runs.Goals as goal

pub returns-clause-runs : goal.returns-clause-runs
returns-clause-runs c loading key workers old new found lawful were o owner before after at was is = services_runs loading key workers old new found lawful were o owner at before after was is

pub returns-clause-go_on : goal.returns-clause-go_on
returns-clause-go_on c loading key workers old new found earlier lawful begun were o owner before after at was is =
    services_go_on loading key workers old new found lawful were o owner at before after was is (earlier o) (begun o owner at)

pub returns-clause-causes : goal.returns-clause-causes
returns-clause-causes c loading key workers old new found lawful were k o x owner query refusal within at meant reply =
    services_caused loading key workers old new found lawful were k o x owner query within at meant refusal reply
