use Rattle.std.proofs.Common.{length, ◌-◌, ◌≡◌, ◌+◌, ◌≤◌, map, drop}
use Rattle.metric_values.specs.Distances.{bag_distance}
use Rattle.value_distance.proofs.sorted.count_unpaired.Given as goal

abbrev pub invariant-loop-i : goal.invariant-loop-i
invariant-loop-i g l =
    let left = map g.E.Element.element l.xs in
    let right = map g.E.Element.element l.ys in
    record {
      left_within : l.i ≤ length l.xs;
      right_within : l.j ≤ length l.ys;
      few : l.unpaired ≤ l.i + l.j;
      same : l.unpaired + bag_distance (drop l.i left) (drop l.j right) ≡ bag_distance left right;
    }

abbrev pub decreases-loop-i : goal.decreases-loop-i
decreases-loop-i g l = (length l.xs - l.i) + (length l.ys - l.j)
