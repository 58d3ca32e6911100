use Rattle.std.proofs.Common.{◌≡◌, [], ◌∷◌, flat_map, length, map, take}
use Rattle.metric_values.specs.Cells.{chosen_of}
use Rattle.part_views.proofs.division.parts.Given as goal

abbrev pub invariant-loop-group : goal.invariant-loop-group
invariant-loop-group l = record {
  before : l.from ≡ length (flat_map (λ group. group.items) (take l.group-index l.group-items));
  so_far : l.parts.items ≡ map (λ group. chosen_of l.table group.items ∷ []) (take l.group-index l.group-items);
}
