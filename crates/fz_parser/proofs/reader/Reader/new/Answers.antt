use Rattle.std.proofs.Common.{refl}
use Rattle.fz_parser.proofs.Entries.{new_state}
use Rattle.fz_parser.proofs.reader.Reader.new.Goals as goal

pub returns-clause-state : goal.returns-clause-state
returns-clause-state c = new_state _ c.new.ensures.items refl
