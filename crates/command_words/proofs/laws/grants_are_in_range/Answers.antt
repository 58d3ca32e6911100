use Rattle.command_words.specs.Command.{grant}
use Rattle.command_words.proofs.Accepted.{in_range}
use Rattle.command_words.proofs.laws.grants_are_in_range.Goals as goal

pub returns : goal.returns
returns c words catalog key owner amount is = in_range words (grant catalog key owner amount) is
