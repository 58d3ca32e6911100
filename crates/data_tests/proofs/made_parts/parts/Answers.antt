-- Four keys are distinct, and make four parts.
use Rattle.std.proofs.Common.{refl}
use Rattle.std.specs.List.{IsDistinct}
use Rattle.data_tests.proofs.made_parts.parts.Goals as goal

pub new-requires : goal.new-requires
unfolding IsDistinct
new-requires c = ((refl, (refl, (refl, tt))), ((refl, (refl, tt)), ((refl, tt), (tt, tt))))
