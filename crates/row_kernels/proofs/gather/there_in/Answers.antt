use Rattle.std.proofs.Common.{◌≡◌, arith, ap, get_or, pos, ◌∙◌}
use Rattle.std.specs.Prelude.{cond, false}
use Rattle.std.proofs.lemmas.Grind.{common_steps}
use Rattle.std.proofs.lemmas.Int.{ints}
use Rattle.std.proofs.lemmas.List.{take_all}
use Rattle.row_kernels.specs.Gathers.{count_there}
use Rattle.row_kernels.proofs.Counted.{count_more}
use Rattle.row_kernels.proofs.gather.there_in.Goals as goal

pub loop-j-preserved : goal.loop-j-preserved
loop-j-preserved c =
    let bs = c.args.there.now in
    let j = c.loop-j.j in
    let one : pos c.one_if-count.result ≡ cond (get_or bs j false) (pos 1) (pos 0) = grind (arith, common_steps, c.one_if-count.ensures.is) in
    (omega (arith, ints, count_more bs j c.loop-j-test.true, c.loop-j.invariant.0, one), omega (arith, c.loop-j.invariant.1, c.one_if-count.ensures.small))

pub returns : goal.returns
returns c = c.loop-j.invariant.0 ∙ ap count_there (take_all c.loop-j.j c.args.there.now c.loop-j-test.false)
