-- What the loop of places::sum keeps.
use Rattle.std.proofs.Common.{drop}
use Rattle.linear_types.specs.Sensitivities.{plus}
use Rattle.linear_types.specs.Places.{distances}
use Rattle.linear_types.proofs.Rest.{Rest}
use Rattle.linear_types.proofs.places.sum.Given as goal

abbrev pub invariant-loop-i : goal.invariant-loop-i
invariant-loop-i l = Rest l.sums.items (plus (distances l.a) (distances l.b)) (plus (distances (drop l.i l.a)) (distances (drop l.i l.b)))
