use Rattle.std.proofs.Common.{refl}
use Rattle.exact_bernoulli.specs.Meter.{draw_limit}
use Rattle.exact_bernoulli.proofs.Meter.new.Goals as goal

pub returns-clause-left : goal.returns-clause-left
unfolding draw_limit
returns-clause-left g c = refl
