use Rattle.std.proofs.Common.{◌≡◌, ◌≤◌, length}
use Rattle.part_views.proofs.Chains.{HasChained}
use Rattle.part_views.proofs.made_parts.divide_by.Given as goal

abbrev pub invariant-loop-row : goal.invariant-loop-row
invariant-loop-row g l = record {
  few : l.row ≤ length l.table;
  parts : length l.first.items ≡ length l.keys;
  room : length l.table ≤ length l.next.items;
  text : length l.text ≡ 64;
  chained : HasChained (g.C.RowClasses.class l.classes) l.table l.keys l.row l.first.items l.next.items;
}

abbrev pub decreases-loop-row : goal.decreases-loop-row
decreases-loop-row g l = l.row
