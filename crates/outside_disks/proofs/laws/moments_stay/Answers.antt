use Rattle.std.proofs.Common.{[], ◌∷◌}
use Rattle.outside_disks.proofs.Images.{was-kept}
use Rattle.outside_disks.proofs.laws.moments_stay.Goals as goal

pub returns : goal.returns
returns c = λ since t step c le was. was-kept since t.start (step ∷ []) t.steps c le was
