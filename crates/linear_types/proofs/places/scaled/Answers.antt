-- What is left to prove of places::scaled.
use Rattle.std.proofs.Common.{arith, drop, ◌≤◌, length}
use Rattle.fz_frac.specs.Sens.{distance_of}
use Rattle.linear_types.specs.Sensitivities.{scale}
use Rattle.linear_types.specs.Places.{distances}
use Rattle.linear_types.proofs.Rest.{scale_done, ends}
use Rattle.linear_types.proofs.places.scaled.Goals as goal

pub returns : goal.returns
returns c =
    let h : length c.args.amounts.now ≤ c.loop-amount.amount-index = omega arith in
    ends c.loop-amount.products.items (scale (distance_of c.args.r) (distances c.args.amounts.now)) (scale (distance_of c.args.r) (distances (drop c.loop-amount.amount-index c.args.amounts.now))) (scale_done (distance_of c.args.r) c.args.amounts.now c.loop-amount.amount-index h) c.loop-amount.invariant
