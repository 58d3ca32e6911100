use Rattle.release_texts.proofs.Texts.{more_tokens, no_longer, texts, widest}
use Rattle.release_texts.proofs.texts_and_their_widest.Goals as goal

pub returns-clause-tokens : goal.returns-clause-tokens
returns-clause-tokens c = texts

pub returns-clause-widest : goal.returns-clause-widest
returns-clause-widest c = widest

pub returns-clause-bytes : goal.returns-clause-bytes
returns-clause-bytes c = no_longer

pub returns-clause-count : goal.returns-clause-count
returns-clause-count c = more_tokens
