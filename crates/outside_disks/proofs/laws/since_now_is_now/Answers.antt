use Rattle.outside_disks.proofs.Images.{was-now}
use Rattle.outside_disks.proofs.laws.since_now_is_now.Goals as goal

pub returns : goal.returns
returns c = λ t c was. was-now t.start t.steps c was
