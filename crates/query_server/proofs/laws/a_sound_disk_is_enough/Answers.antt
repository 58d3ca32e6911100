use Rattle.query_server.proofs.Enough.{sound_enough, sound_enough_to_serve}
use Rattle.query_server.proofs.laws.a_sound_disk_is_enough.Goals as goal

pub returns-clause-scripts : goal.returns-clause-scripts
returns-clause-scripts c = sound_enough

pub returns-clause-services : goal.returns-clause-services
returns-clause-services c = sound_enough_to_serve
