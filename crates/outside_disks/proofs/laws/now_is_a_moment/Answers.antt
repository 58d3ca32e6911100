use Rattle.outside_disks.proofs.Images.{now-was}
use Rattle.outside_disks.proofs.laws.now_is_a_moment.Goals as goal

pub returns : goal.returns
returns c = λ since t c is. now-was since t.start t.steps c is
