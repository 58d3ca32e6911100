use Rattle.fz_parser.proofs.Types.{written_types_read_back}
use Rattle.fz_parser.proofs.parser.written_types_read_back.Goals as goal

pub returns : goal.returns
returns c = written_types_read_back
