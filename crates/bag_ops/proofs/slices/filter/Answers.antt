use Rattle.std.proofs.Common.{rules, subst}
use Rattle.std.specs.Fn.{FnReturnsAt}
use Rattle.std.specs.Prelude.{Ok}
use Rattle.bag_ops.specs.Bags.{IsFilter}
use Rattle.bag_ops.proofs.Lists.{given_list, if_ok}
use Rattle.bag_ops.proofs.slices.filter.Goals as goal

pub returns : goal.returns
returns g c =
    if_ok c.filter_by.result _ _ c.filter_by.ensures
    (λ ys r. subst (λ xs. IsFilter (λ x b. FnReturnsAt g.P.Fn c.args.keep.now x (Ok b)) xs ys.items) (given_list _ c.args.bag.now r.0 (λ i x l e. search rules) r.1) r.2)
