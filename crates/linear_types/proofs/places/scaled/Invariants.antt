-- What the loop of places::scaled keeps.
use Rattle.std.proofs.Common.{drop}
use Rattle.fz_frac.specs.Sens.{distance_of}
use Rattle.linear_types.specs.Sensitivities.{scale}
use Rattle.linear_types.specs.Places.{distances}
use Rattle.linear_types.proofs.Rest.{Rest}
use Rattle.linear_types.proofs.places.scaled.Given as goal

abbrev pub invariant-loop-amount : goal.invariant-loop-amount
invariant-loop-amount l = Rest l.products.items (scale (distance_of l.r) (distances l.amounts)) (scale (distance_of l.r) (distances (drop l.amount-index l.amounts)))
