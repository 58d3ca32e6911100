use Rattle.std.proofs.Common.{◌≡◌, drop, take}
use Rattle.metric_values.specs.Cells.{AreRows, chosen_of}
use Rattle.part_views.proofs.division.part.Given as goal

abbrev pub invariant-loop-j : goal.invariant-loop-j
invariant-loop-j l = record {
  there : AreRows l.table l.rows.items;
  so_far : chosen_of l.table l.rows.items ≡ take l.j (drop l.from l.table);
}
