use Rattle.value_distance.proofs.Merged.{sorted_apart}
use Rattle.value_distance.proofs.sorted.bags_apart.Goals as goal

pub returns : goal.returns
returns g c =
    rw (c.count_unpaired.ensures, c.as_slice.ensures.value, c.as_slice-2.ensures.value)
    (sorted_apart g.E.Element.element c.args.xs.items c.sort.new.items.items c.args.ys.items c.sort-2.new.items.items c.sort.ensures.permutation c.sort-2.ensures.permutation)
