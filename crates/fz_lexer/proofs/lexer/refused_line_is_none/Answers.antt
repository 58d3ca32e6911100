use Rattle.fz_lexer.proofs.Cuts.{line_refused}
use Rattle.fz_lexer.proofs.lexer.refused_line_is_none.Goals as goal

pub returns : goal.returns
returns c = line_refused
