use Rattle.std.proofs.Common.{◌∷◌, ◌++◌, []}
use Rattle.bag_ops.proofs.Lists.{elements_more, filter_more}
use Rattle.bag_ops.proofs.by_place.filter_by.Goals as goal

pub loop-i-preserved : goal.loop-i-preserved
loop-i-preserved g c =
    let h = c.loop-i.invariant in
    let x = c.in_ok-x.x in (
      h.0 ++ x ∷ [],
      elements_more _ c.loop-i.i h.0 x h.1 c.in_ok-x.ensures.0,
      filter_more _ h.0 c.loop-i.yes.items _ x c.in_ok-x.verdict h.2 c.in_ok-x.ensures.1 c.in_ok-put_kept.ensures,
    )
