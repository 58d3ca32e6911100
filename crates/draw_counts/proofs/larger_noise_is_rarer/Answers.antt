use Rattle.draw_counts.proofs.Larger.{larger_rarer}
use Rattle.draw_counts.proofs.larger_noise_is_rarer.Goals as goal

pub returns : goal.returns
returns c = record { rarer = λ t s k n t_pos t_most s_pos l. larger_rarer t s t_pos t_most s_pos k n l }
