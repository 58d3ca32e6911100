use Rattle.successive_runs.proofs.Files.{may_be_gone_on}
use Rattle.successive_runs.proofs.laws.answered_scripts_leave_what_may_be_found.Goals as goal

pub returns : goal.returns
returns c loading key workers old new found script text earlier lawful begun done o owner before after at was is =
    may_be_gone_on loading key workers old new found script text lawful done o owner before after at was is (earlier o) (begun o owner at)
