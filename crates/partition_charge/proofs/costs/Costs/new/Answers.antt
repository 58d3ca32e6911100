use Rattle.std.proofs.Common.{length, arith, ap}
use Rattle.partition_charge.specs.declared.parts.PartSum.{PartSum}
use Rattle.partition_charge.proofs.Standing.{new-stands, empty-at}
use Rattle.partition_charge.proofs.costs.Costs.new.Goals as goal

pub returns-clause-totals : goal.returns-clause-totals
returns-clause-totals c =
    let done = c.loop-partition.invariant in
    new-stands c.min-room.result c.loop-partition.partitions (omega (arith, done.count, c.loop-partition-test.false, c.loop-partition.auto)) done.empty

pub returns-clause-places : goal.returns-clause-places
returns-clause-places c p parts found =
    let empty = empty-at c.min-room.result c.loop-partition.partitions.items p parts c.loop-partition.invariant.empty found in
    omega (arith, empty.2, ap (length {A = PartSum}) empty.0, c.min-room.ensures)

pub returns-clause-below : goal.returns-clause-below
returns-clause-below c p parts found =
    let empty = empty-at c.min-room.result c.loop-partition.partitions.items p parts c.loop-partition.invariant.empty found in
    (λ i within. absurd (omega (arith, within, ap (length {A = PartSum}) empty.0)), omega (arith, empty.2, c.min-room.ensures))
