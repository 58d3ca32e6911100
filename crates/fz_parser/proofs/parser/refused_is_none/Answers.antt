use Rattle.fz_parser.proofs.Laws.{refused}
use Rattle.fz_parser.proofs.parser.refused_is_none.Goals as goal

pub returns : goal.returns
returns c = refused
