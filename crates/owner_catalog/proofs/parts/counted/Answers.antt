-- The items of a list, by their count.
use Rattle.std.proofs.Common.{arith}
use Rattle.owner_catalog.proofs.Values.{counted_ok, counted_low, counted_high}
use Rattle.owner_catalog.proofs.parts.counted.Goals as goal
use Rattle.owner_catalog.proofs.parts.counted.Goals.{then-least-len+else-len-most, else-least-len}

pub returns-in-Some-clause-items : goal.returns-in-Some-clause-items
returns-in-Some-clause-items c =
    rw c.as_slice.ensures.value (counted_ok _ _ _ _ c.in-Some.items.now.items c.in-Some.ensures (omega arith) (omega arith))

pub returns-in-Some-2-clause-fault : goal.returns-in-Some-2-clause-fault
returns-in-Some-2-clause-fault c = elim c.if-least-len.branch [
  | then-least-len+else-len-most w ↦ counted_high _ _ _ _ c.in-Some.items.now.items c.in-Some.ensures (omega arith) (omega arith)
  | else-least-len w ↦ counted_low _ _ _ _ c.in-Some.items.now.items c.in-Some.ensures (omega arith)
]
