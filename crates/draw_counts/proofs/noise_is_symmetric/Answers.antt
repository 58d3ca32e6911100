use Rattle.draw_counts.proofs.Symmetry.{noise_symmetric}
use Rattle.draw_counts.proofs.noise_is_symmetric.Goals as goal

pub returns : goal.returns
returns c = record { symmetric = noise_symmetric }
