use Rattle.std.proofs.Common.{◌≡◌, arith, get_or, pos, ◌∙◌}
use Rattle.std.specs.Prelude.{cond, false}
use Rattle.std.proofs.lemmas.Grind.{common_steps}
use Rattle.std.proofs.lemmas.Int.{ints, to_z-of_z}
use Rattle.metric_values.specs.Numbers.{clip}
use Rattle.row_kernels.specs.Gathers.{held, sum_there}
use Rattle.row_kernels.proofs.Counted.{part_all, part_more, part_none}
use Rattle.row_kernels.proofs.gather.sum_of.Goals as goal

pub loop-j-init : goal.loop-j-init
loop-j-init c = part_none _ _ _ _

pub loop-j-preserved : goal.loop-j-preserved
loop-j-preserved c =
    let zs = c.args.zs.now in
    let bs = c.args.there.now in
    let j = c.loop-j.j in
    let here : c.part_of-here.result ≡ cond (get_or bs j false) (clip (held c.args.lo) (held c.args.hi) (get_or zs j (pos 0))) (pos 0) = grind (arith, to_z-of_z, common_steps, c.part_of-here.ensures) in
    part_more (held c.args.lo) (held c.args.hi) zs bs j c.requires c.loop-j-test.true c.part_of-here.result c.loop-j.invariant here (omega (arith, ints, c.part_of-here.type_inv))
    (omega (arith, ints, c.part_of-here.type_inv)) (omega (arith, ints, c.part_of-here.type_inv))

pub returns : goal.returns
returns c =
    let low : held c.args.lo ≡ c.args.lo = omega (arith, ints, c.ranges.lo) in
    let high : held c.args.hi ≡ c.args.hi = omega (arith, ints, c.ranges.hi) in
    part_all (held c.args.lo) (held c.args.hi) c.args.zs.now c.args.there.now c.loop-j.j c.requires c.loop-j-test.false c.loop-j.invariant
    ∙ (λ i. sum_there (low i) (high i) c.args.zs.now c.args.there.now)
