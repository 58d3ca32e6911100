use Rattle.budget_core.proofs.SoundLemmas.{grant-left}
use Rattle.budget_core.proofs.laws.grants_tell_what_is_left.Goals as goal

pub returns : goal.returns
returns c = λ entry start records amount left is. grant-left entry start records amount left is
