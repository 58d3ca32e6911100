use Rattle.derivation_lines.proofs.ReadBack.{read_back}
use Rattle.derivation_lines.proofs.write.written_reads_back.Goals as goal

pub returns : goal.returns
returns c = read_back
