use Rattle.fz_parser.proofs.Machine.{one_only}
use Rattle.fz_parser.proofs.parser.one_term.Goals as goal

pub returns : goal.returns
returns c = λ ts e other h k. one_only ts other e k h
