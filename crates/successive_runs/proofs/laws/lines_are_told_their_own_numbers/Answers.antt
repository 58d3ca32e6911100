use Rattle.successive_runs.proofs.OfLines.{lines_told, scripts_told}
use Rattle.successive_runs.proofs.laws.lines_are_told_their_own_numbers.Goals as goal

pub returns-clause-lines : goal.returns-clause-lines
returns-clause-lines c = lines_told

pub returns-clause-scripts : goal.returns-clause-scripts
returns-clause-scripts c = scripts_told
