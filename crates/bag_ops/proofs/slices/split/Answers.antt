use Rattle.std.proofs.Common.{rules, subst}
use Rattle.std.specs.Fn.{FnReturnsAt}
use Rattle.std.specs.Prelude.{Ok}
use Rattle.bag_ops.specs.Bags.{IsSplit}
use Rattle.bag_ops.proofs.Lists.{given_list, if_ok}
use Rattle.bag_ops.proofs.slices.split.Goals as goal

pub returns : goal.returns
returns g c =
    if_ok c.split_by.result _ _ c.split_by.ensures
    (λ ys r. subst (λ xs. IsSplit (λ x b. FnReturnsAt g.P.Fn c.args.keep.now x (Ok b)) xs ys.0.items ys.1.items) (given_list _ c.args.bag.now r.0 (λ i x l e. search rules) r.1) r.2)
