-- What is left to prove of places::sum.
use Rattle.std.proofs.Common.{arith, drop, ◌+◌, ◌≤◌, length}
use Rattle.fz_frac.specs.Distance.{add}
use Rattle.linear_types.specs.Sensitivities.{plus}
use Rattle.linear_types.specs.Places.{distances}
use Rattle.linear_types.proofs.Rest.{each_done, ends, next_step}
use Rattle.linear_types.proofs.places.sum.Goals as goal

pub loop-i-preserved : goal.loop-i-preserved
loop-i-preserved c =
    let D = plus (distances c.args.a.now) (distances c.args.b.now) in
    let E = plus (distances (drop c.loop-i.i c.args.a.now)) (distances (drop c.loop-i.i c.args.b.now)) in
    let F = plus (distances (drop (c.loop-i.i + 1) c.args.a.now)) (distances (drop (c.loop-i.i + 1) c.args.b.now)) in
    rw c.in_ok-push.ensures.items (next_step c.loop-i.sums.items D E F c.in_ok-sum_at.field-0 c.sum_at.result c.in_ok-sum_at.was c.sum_at.ensures c.loop-i.invariant)

pub returns : goal.returns
returns c =
    let h : length c.args.a.now ≤ c.loop-i.i = omega arith in
    let k : length c.args.b.now ≤ c.loop-i.i = omega arith in
    ends c.loop-i.sums.items (plus (distances c.args.a.now) (distances c.args.b.now)) (plus (distances (drop c.loop-i.i c.args.a.now)) (distances (drop c.loop-i.i c.args.b.now))) (each_done add c.args.a.now c.args.b.now c.loop-i.i h k) c.loop-i.invariant
