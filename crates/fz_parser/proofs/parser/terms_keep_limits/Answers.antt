use Rattle.fz_parser.proofs.Limits.{term_limits}
use Rattle.fz_parser.proofs.parser.terms_keep_limits.Goals as goal

pub returns : goal.returns
returns c = term_limits
