use Rattle.std.proofs.Common.{arith, rules}
use Rattle.std.proofs.lemmas.Grind.{common_steps}
use Rattle.std.proofs.lemmas.Int.{to_z-of_z}
use Rattle.row_kernels.specs.Lanes.{AreNumbers}
use Rattle.row_kernels.proofs.Passing.{is_size_total, is_sum_total}
use Rattle.row_kernels.proofs.flows.lanes_total.Goals as goal

pub sum_of-requires : goal.sum_of-requires
sum_of-requires c =
    let h : AreNumbers c.args.len c.args.rows.lanes c.in-Some.zs.items = search rules in grind (arith, common_steps, h.long, c.requires.there)

pub returns-in-Size : goal.returns-in-Size
returns-in-Size c = is_size_total c.args.gather c.args.len c.args.rows _ c.in-Size.is (grind (arith, to_z-of_z, common_steps, c.there_in.ensures))

pub returns-in-Some : goal.returns-in-Some
returns-in-Some c =
    let h : AreNumbers c.args.len c.args.rows.lanes c.in-Some.zs.items = search rules in
    is_sum_total c.args.gather c.in-Sum.lo c.in-Sum.hi c.args.len c.args.rows c.in-Some.zs.items c.deref-in-Sum-2.result.now _ c.in-Sum.is h c.deref-in-Sum-2.ensures.value
    (search rules)
