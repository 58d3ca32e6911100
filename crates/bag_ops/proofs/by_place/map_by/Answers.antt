use Rattle.std.proofs.Common.{◌∷◌, ◌++◌, [], sym, subst}
use Rattle.std.specs.Fn.{FnReturnsAt}
use Rattle.std.specs.List.{AllZip}
use Rattle.std.specs.Prelude.{Ok}
use Rattle.std.proofs.slice.Lists.{all_zipped_more}
use Rattle.bag_ops.proofs.Lists.{elements_more}
use Rattle.bag_ops.proofs.by_place.map_by.Goals as goal

pub loop-i-preserved : goal.loop-i-preserved
loop-i-preserved g c =
    let h = c.loop-i.invariant in
    let y = c.in_ok-y.ensures in (
      h.0 ++ y.0 ∷ [],
      elements_more _ c.loop-i.i h.0 y.0 h.1 y.1,
      subst (λ ys. AllZip (λ x y. FnReturnsAt g.F.Fn c.args.f.now x (Ok y)) (h.0 ++ y.0 ∷ []) ys) (sym c.in_ok-put.ensures) (all_zipped_more _ h.0 c.loop-i.images.items y.0 c.in_ok-y.y h.2 y.2),
    )
