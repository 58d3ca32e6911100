use Rattle.fz_parser.proofs.Laws.{once}
use Rattle.fz_parser.proofs.parser.one_fault.Goals as goal

pub returns : goal.returns
returns c = once
