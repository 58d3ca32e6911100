use Rattle.command_words.proofs.Workers.{workers_are_said}
use Rattle.command_words.proofs.laws.workers_are_said_by_a_number.Goals as goal

pub returns : goal.returns
returns c = workers_are_said
