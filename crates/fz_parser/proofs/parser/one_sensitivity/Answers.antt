use Rattle.fz_parser.proofs.Types.{one_sensitivity}
use Rattle.fz_parser.proofs.parser.one_sensitivity.Goals as goal

pub returns : goal.returns
returns c = one_sensitivity
