use Rattle.draw_counts.proofs.Sequences.{sequence_private}
use Rattle.draw_counts.proofs.sequence_is_private.Goals as goal

pub returns : goal.returns
returns c = record { private = sequence_private }
