use Rattle.fz_lexer.proofs.Cuts.{refused}
use Rattle.fz_lexer.proofs.lexer.refused_is_none.Goals as goal

pub returns : goal.returns
returns c = refused
