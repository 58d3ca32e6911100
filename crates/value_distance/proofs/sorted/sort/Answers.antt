use Rattle.std.proofs.Common.{rules, is_lt}
use Rattle.std.proofs.lemmas.Fn.{always_returns_same}
use Rattle.std.proofs.lemmas.List.Sorted.{ranks_by}
use Rattle.value_distance.specs.Order.{element_cmp}
use Rattle.value_distance.proofs.Ordered.{element_cmp_total}
use Rattle.value_distance.proofs.sorted.sort.Goals as goal

pub returns-clause-sorted : goal.returns-clause-sorted
returns-clause-sorted g c =
    let element = g.E.Element.element in
    c.sort_unstable_by.ensures.sorted (λ a b. is_lt (element_cmp (element a) (element b))) (ranks_by element_cmp_total element) (always_returns_same _ _ _ (λ a r f k. search rules))
