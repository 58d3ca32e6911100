use Rattle.fz_lexer.proofs.Cuts.{only}
use Rattle.fz_lexer.proofs.lexer.one_cut.Goals as goal

pub returns : goal.returns
returns c = only
