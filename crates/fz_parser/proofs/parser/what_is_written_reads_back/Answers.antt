use Rattle.fz_parser.proofs.Printing.{reads_back}
use Rattle.fz_parser.proofs.parser.what_is_written_reads_back.Goals as goal

pub returns : goal.returns
returns c = reads_back
