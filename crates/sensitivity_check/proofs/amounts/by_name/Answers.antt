use Rattle.std.proofs.Common.{◌≡◌, ◌+◌, ◌-◌, ◌∙◌, arith}
use Rattle.fz_frac.specs.Sens.{distance_of}
use Rattle.fz_ast.specs.Tables.{table_of}
use Rattle.linear_types.specs.Environment.{amount_of}
use Rattle.linear_types.specs.Places.{distances}
use Rattle.sensitivity_check.proofs.TableAmounts.{by_name_more}
use Rattle.sensitivity_check.proofs.amounts.by_name.Goals as goal

pub loop-i-preserved : goal.loop-i-preserved
loop-i-preserved c =
    let l = c.loop-i-test.true in
    let e : c.loop-i.i - 1 + 1 ≡ c.loop-i.i = omega arith in
    record {
      signature = λ k. c.table.ensures.signature;
      amounts = λ x. c.in_default.ensures.set x ∙ by_name_more c.args.sig.now (distances c.args.amounts.now) c.loop-i.i (c.loop-i.i - 1) (table_of c.table.result.now) x (distance_of c.amount_at.result) (amount_of c.loop-i.env x) e c.table.ensures.is c.amount_at.ensures (c.loop-i.invariant.amounts x);
    }
