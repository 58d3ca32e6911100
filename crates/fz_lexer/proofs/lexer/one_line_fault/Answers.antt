use Rattle.fz_lexer.proofs.Cuts.{line_once}
use Rattle.fz_lexer.proofs.lexer.one_line_fault.Goals as goal

pub returns : goal.returns
returns c = line_once
