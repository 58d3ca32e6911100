use Rattle.command_words.specs.Command.{serve}
use Rattle.command_words.proofs.Accepted.{in_range}
use Rattle.command_words.proofs.laws.services_are_in_range.Goals as goal

pub returns : goal.returns
returns c words catalog key address port workers each is = in_range words (serve catalog key address port workers each) is
