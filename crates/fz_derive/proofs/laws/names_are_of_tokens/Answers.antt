use Rattle.fz_derive.proofs.Names.{names_of_tokens, words_are_read}
use Rattle.fz_derive.proofs.laws.names_are_of_tokens.Goals as goal

pub returns-clause-tokens : goal.returns-clause-tokens
returns-clause-tokens c = names_of_tokens

pub returns-clause-words : goal.returns-clause-words
returns-clause-words c = words_are_read
