use Rattle.std.proofs.Common.{◌≡◌, flat_map, take}
use Rattle.part_views.proofs.division.sorted.Given as goal

abbrev pub invariant-loop-group : goal.invariant-loop-group
invariant-loop-group l = record { so_far : l.rows.items ≡ flat_map (λ group. group.items) (take l.group-index l.groups) }
