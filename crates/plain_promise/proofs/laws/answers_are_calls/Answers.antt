use Rattle.plain_promise.proofs.Owners.{script_is_call, service_is_call}
use Rattle.plain_promise.proofs.laws.answers_are_calls.Goals as goal

pub returns-clause-scripts : goal.returns-clause-scripts
returns-clause-scripts c words reads old new script written a o owner before after sent here was is = script_is_call words reads old new script written a o owner here before after sent was is

pub returns-clause-services : goal.returns-clause-services
returns-clause-services c words reads old new doors behind status sink sunk s o owner before after sent here was is =
    service_is_call words reads old new doors behind status sink sunk s o owner here before after sent was is
