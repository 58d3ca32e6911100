use Rattle.fz_lexer.proofs.Lexing.{lexed_or_faulty}
use Rattle.fz_lexer.proofs.lexer.every_text_is_lexed.Goals as goal

pub returns : goal.returns
returns c = lexed_or_faulty
