use Rattle.release_texts.proofs.Numbers.{spelled}
use Rattle.release_texts.proofs.numbers_are_spelled.Goals as goal

pub returns : goal.returns
returns c = spelled
