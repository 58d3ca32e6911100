use Rattle.std.proofs.Common.{◌∷◌, ◌++◌, [], ap, ◌∙◌, append_assoc}
use Rattle.bag_ops.proofs.Lists.{elements_more}
use Rattle.bag_ops.proofs.by_place.append_by.Goals as goal

pub loop-i-preserved : goal.loop-i-preserved
loop-i-preserved g c =
    let h = c.loop-i.invariant in
    let x = c.in_ok-x.x in (
      h.0 ++ x ∷ [],
      elements_more _ c.loop-i.i h.0 x h.1 c.in_ok-x.ensures,
      c.in_ok-put.ensures ∙ ap (λ ys. ys ++ x ∷ []) h.2 ∙ append_assoc c.args.out.now.items h.0 (x ∷ []),
    )
