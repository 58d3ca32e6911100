use Rattle.fz_lexer.proofs.Cuts.{line_faults}
use Rattle.fz_lexer.proofs.lexer.lex_line.Goals as goal

pub returns-clause-fault : goal.returns-clause-fault
returns-clause-fault c = line_faults c.args.bytes.now c.cut.result c.cut.ensures.fault
