use Rattle.fz_parser.proofs.Types.{one_type}
use Rattle.fz_parser.proofs.parser.one_type.Goals as goal

pub returns : goal.returns
returns c = one_type
