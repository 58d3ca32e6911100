use Rattle.value_distance.proofs.Typed.{bag_answer}
use Rattle.value_distance.proofs.values.between_bags.Goals as goal

pub returns : goal.returns
returns c =
    let count = rw (c.as_slice.ensures.value, c.as_slice-2.ensures.value, c.in_ok-xs.ensures.is, c.in_ok-ys.ensures.is) at c.in_ok-count.ensures in
    λ A. rw c.ok_or.ensures.value (bag_answer A c.args.v.now c.args.w.now c.in_ok-count.count c.whole.result c.requires.left c.requires.right count c.whole.ensures.exact c.whole.ensures.range)
