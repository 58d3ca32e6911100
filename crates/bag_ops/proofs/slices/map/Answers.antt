use Rattle.std.proofs.Common.{rules, subst}
use Rattle.std.specs.Fn.{FnReturnsAt}
use Rattle.std.specs.List.{AllZip}
use Rattle.std.specs.Prelude.{Ok}
use Rattle.bag_ops.proofs.Lists.{given_list, if_ok}
use Rattle.bag_ops.proofs.slices.map.Goals as goal

pub returns : goal.returns
returns g c =
    if_ok c.map_by.result _ _ c.map_by.ensures
    (λ ys r. subst (λ xs. AllZip (λ x y. FnReturnsAt g.F.Fn c.args.f.now x (Ok y)) xs ys.items) (given_list _ c.args.bag.now r.0 (λ i x l e. search rules) r.1) r.2)
