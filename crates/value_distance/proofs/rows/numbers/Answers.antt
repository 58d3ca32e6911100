use Rattle.std.proofs.Common.{◌∙◌, arith}
use Rattle.metric_values.specs.Values.{NumF}
use Rattle.value_distance.specs.declared.rows.Number.{Number}
use Rattle.value_distance.proofs.NumberRows.{lone_more}
use Rattle.value_distance.proofs.rows.numbers.Goals as goal

pub loop-i-preserved : goal.loop-i-preserved
loop-i-preserved c =
    rw c.in_default-push.ensures.items
    (lone_more (λ (number : Number). NumF number.value) c.loop-i.numbers.items c.in-Some.number c.args.table.now c.loop-i.i c.width.result (omega (arith, c.loop-i-test.true, c.len-i-end.ensures)) c.if-width-ne1.false c.width.ensures.columns (c.in-Some.ensures ∙ c.cell.ensures) c.loop-i.invariant)
