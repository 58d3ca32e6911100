use Rattle.word_streams.specs.Draws.{draws_of}
use Rattle.owner_house.specs.House.{house_of}
use Rattle.owner_house.proofs.Owners.{register_owners}
use Rattle.catalog_loading.specs.Loaded.{header_of}
use Rattle.successive_runs.proofs.Files.{disk as script_disk, speaker as script_speaker}
use Rattle.served_sessions.proofs.Services.{disk, speaker}
use Rattle.served_sessions.proofs.Stopped.{lines_held, told_is_settled}
use Rattle.served_sessions.proofs.laws.answers_stand_in_every_image.Goals as goal

pub returns-clause-services : goal.returns-clause-services
returns-clause-services c loading key workers old new found lawful were o owner earlier before after at begun was is =
    lines_held (house_of loading.register) (draws_of key) workers were.held.crew o owner (found o) were.held.exchanges (were.over.records o) (were.over.closed o) (header_of loading key o) earlier at
    (register_owners loading.register lawful.register o owner at) begun before after (speaker loading key workers old new found lawful were o owner at) (were.over.gathered o owner at) (were.over.shut o owner at)
    (disk loading key workers old new found lawful were o owner at before after was is)

pub returns-clause-scripts : goal.returns-clause-scripts
returns-clause-scripts c loading key workers old new found script text lawful done o owner earlier before after at begun was is =
    lines_held (house_of loading.register) (draws_of key) workers done.crew o owner (found o) done.exchanges (done.records o) (done.closed o) (header_of loading key o) earlier at
    (register_owners loading.register lawful.register o owner at) begun before after (script_speaker loading key workers old new found script text lawful done o owner before after at was is) (done.gathered.owners o owner at)
    (done.shut o owner at) (script_disk loading key workers old new found script text lawful done o owner before after at was is)

pub returns-clause-settled : goal.returns-clause-settled
returns-clause-settled c = told_is_settled
