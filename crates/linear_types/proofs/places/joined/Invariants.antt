-- What the loop of places::joined keeps.
use Rattle.std.proofs.Common.{◌≡◌, ◌++◌, drop}
use Rattle.linear_types.specs.Sensitivities.{join}
use Rattle.linear_types.specs.Places.{distances}
use Rattle.linear_types.proofs.places.joined.Given as goal

abbrev pub invariant-loop-i : goal.invariant-loop-i
invariant-loop-i l = distances l.greatest.items ++ join (distances (drop l.i l.a)) (distances (drop l.i l.b)) ≡ join (distances l.a) (distances l.b)
