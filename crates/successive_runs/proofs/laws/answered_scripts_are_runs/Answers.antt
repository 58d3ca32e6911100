use Rattle.successive_runs.proofs.Files.{runs_of}
use Rattle.successive_runs.proofs.laws.answered_scripts_are_runs.Goals as goal

pub returns : goal.returns
returns c loading key workers old new found script text lawful done o owner before after at was is =
    runs_of loading key workers old new found script text lawful done o owner before after at was is
