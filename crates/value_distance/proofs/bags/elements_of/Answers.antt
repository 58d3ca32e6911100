use Rattle.std.proofs.Common.{refl}
use Rattle.run_values.specs.Flats.{flat_of}
use Rattle.value_distance.proofs.Gathered.{held_more, one_longer}
use Rattle.value_distance.proofs.bags.elements_of.Goals as goal

pub loop-value-preserved : goal.loop-value-preserved
loop-value-preserved c =
    rw c.in_default.ensures.items
    (record {
      same = held_more (λ h. flat_of h.value.now) c.loop-value.elements.items _ c.args.values.now c.loop-value.value-index c.value-item.result c.loop-value-test.true c.value-item.is refl c.loop-value.invariant.same;
      many = one_longer c.loop-value.elements.items _ c.loop-value.value-index c.loop-value.invariant.many;
    })
