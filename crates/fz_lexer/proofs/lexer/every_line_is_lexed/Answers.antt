use Rattle.fz_lexer.proofs.Lexing.{line_or_faulty}
use Rattle.fz_lexer.proofs.lexer.every_line_is_lexed.Goals as goal

pub returns : goal.returns
returns c = line_or_faulty
