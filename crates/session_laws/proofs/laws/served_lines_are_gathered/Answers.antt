use Rattle.session_laws.proofs.Scripts.{lines_gathered}
use Rattle.session_laws.proofs.Worked.{crew_gathered, script_gathered}
use Rattle.session_laws.proofs.laws.served_lines_are_gathered.Goals as goal

pub returns-clause-lines : goal.returns-clause-lines
returns-clause-lines c = lines_gathered

pub returns-clause-crew : goal.returns-clause-crew
returns-clause-crew c = crew_gathered

pub returns-clause-script : goal.returns-clause-script
returns-clause-script c = script_gathered
