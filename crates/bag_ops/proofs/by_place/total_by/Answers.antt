use Rattle.std.proofs.Common.{arith}
use Rattle.std.proofs.lemmas.Int.{ints}
use Rattle.bag_ops.proofs.Lists.{summed_more, summed_none}
use Rattle.bag_ops.proofs.by_place.total_by.Goals as goal

pub loop-i-init : goal.loop-i-init
loop-i-init g c = summed_none _ _ _

pub loop-i-preserved : goal.loop-i-preserved
loop-i-preserved g c =
    let y = c.in_ok-here.ensures.ok in
    summed_more _ _ _ c.loop-i.i _ c.in_ok-here.here _ y.0 c.loop-i.invariant y.1 y.2
    (omega (arith, ints, c.ranges.lo)) (omega (arith, ints, c.ranges.lo)) (omega (arith, ints, c.ranges.hi))
    (omega (arith, ints, c.loop-i.invariant.low, c.loop-i.invariant.high, c.loop-i-test.true, c.ranges.len.fits, c.loop-i.total-is))
