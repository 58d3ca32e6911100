use Rattle.command_words.specs.Command.{run}
use Rattle.command_words.proofs.Accepted.{in_range}
use Rattle.command_words.proofs.laws.workers_are_in_range.Goals as goal

pub returns : goal.returns
returns c words catalog key workers is = in_range words (run catalog key workers) is
