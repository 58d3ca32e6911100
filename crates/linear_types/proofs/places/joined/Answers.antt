-- What is left to prove of places::joined.
use Rattle.std.proofs.Common.{arith, drop, ◌≤◌, length}
use Rattle.fz_frac.specs.Distance.{greater}
use Rattle.linear_types.specs.Sensitivities.{join}
use Rattle.linear_types.specs.Places.{distances}
use Rattle.linear_types.proofs.Rest.{each_done, kept_end}
use Rattle.linear_types.proofs.places.joined.Goals as goal

pub returns : goal.returns
returns c =
    let h : length c.args.a.now ≤ c.loop-i.i = omega arith in
    let k : length c.args.b.now ≤ c.loop-i.i = omega arith in
    kept_end c.loop-i.greatest.items (join (distances c.args.a.now) (distances c.args.b.now)) (join (distances (drop c.loop-i.i c.args.a.now)) (distances (drop c.loop-i.i c.args.b.now))) (each_done greater c.args.a.now c.args.b.now c.loop-i.i h k) c.loop-i.invariant
