use Rattle.fz_parser.proofs.Written.{as_written}
use Rattle.fz_parser.proofs.parser.products_as_written.Goals as goal

pub returns : goal.returns
returns c = as_written
