use Rattle.command_words.proofs.Plain.{plain_is_tabled}
use Rattle.command_words.proofs.laws.plain_words_are_a_table.Goals as goal

pub returns : goal.returns
returns c words plain = plain_is_tabled words plain
