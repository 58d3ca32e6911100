use Rattle.draw_counts.proofs.Rare.{exhaustion_rare}
use Rattle.draw_counts.proofs.exhaustion_is_rare.Goals as goal

pub returns : goal.returns
returns c = record { rare = exhaustion_rare }
