use Rattle.outside_disks.proofs.Images.{seen-image}
use Rattle.outside_disks.proofs.laws.reads_are_an_image.Goals as goal

pub returns : goal.returns
returns c = λ t. seen-image t.start t.steps
