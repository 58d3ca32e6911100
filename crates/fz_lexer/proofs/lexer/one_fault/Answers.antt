use Rattle.fz_lexer.proofs.Cuts.{once}
use Rattle.fz_lexer.proofs.lexer.one_fault.Goals as goal

pub returns : goal.returns
returns c = once
