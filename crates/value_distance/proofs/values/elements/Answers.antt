use Rattle.std.proofs.Common.{arith}
use Rattle.run_values.specs.Parts.{elements}
use Rattle.value_distance.proofs.Gathered.{gathered}
use Rattle.value_distance.proofs.values.elements.Goals as goal

pub loop-i-preserved : goal.loop-i-preserved
loop-i-preserved c =
    rw c.in_default.ensures.items
    (gathered c.loop-i.values.items c.in_ok-value.value (elements c.args.bag.now) c.loop-i.i (omega (arith, c.loop-i-test.true, c.size-i-end.ensures)) c.in_ok-value.ensures c.loop-i.invariant.0 c.loop-i.invariant.1)
