use Rattle.draw_counts.proofs.Private.{whole_private}
use Rattle.draw_counts.proofs.whole_eps_is_private.Goals as goal

pub returns : goal.returns
returns c = record { private = whole_private }
