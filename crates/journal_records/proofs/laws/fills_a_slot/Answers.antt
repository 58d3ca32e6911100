use Rattle.journal_records.proofs.Shapes.{length-encoded, encoded-gate}
use Rattle.journal_records.proofs.laws.fills_a_slot.Goals as goal

pub returns : goal.returns
returns c = λ r valid. (length-encoded r valid, encoded-gate r)
