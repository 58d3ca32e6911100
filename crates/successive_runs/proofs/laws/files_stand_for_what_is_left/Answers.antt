use Rattle.successive_runs.proofs.Files.{moment_stands, moment_others}
use Rattle.successive_runs.proofs.laws.files_stand_for_what_is_left.Goals as goal

pub returns-clause-stand : goal.returns-clause-stand
returns-clause-stand c = moment_stands

pub returns-clause-others : goal.returns-clause-others
returns-clause-others c = moment_others
