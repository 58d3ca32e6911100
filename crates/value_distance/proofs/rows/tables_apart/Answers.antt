use Rattle.std.proofs.Common.{arith, inl, inr, length}
use Rattle.value_distance.proofs.RowParts.{apart_through, min_is_one}
use Rattle.value_distance.proofs.rows.tables_apart.Goals as goal

pub returns : goal.returns
returns c =
    apart_through c.args.x.now c.args.y.now c.loop-k.k c.loop-k.sum
    _ (elim (min_is_one (length c.args.x.now) (length c.args.y.now) c.min-k-end.result (rw (c.len.ensures, c.len-2.ensures) at c.min-k-end.ensures)) [ inl m ↦ inl (omega (arith, m, c.loop-k-test.false)) | inr m ↦ inr (omega (arith, m, c.loop-k-test.false)) ])
    c.loop-k.invariant
