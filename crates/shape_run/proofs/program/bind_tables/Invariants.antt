use Rattle.std.proofs.Common.{List, drop, length, ◌≤◌}
use Rattle.fz_ast.specs.Terms.{Term}
use Rattle.shape_law.specs.Shapes.{Wide, table_shapes}
use Rattle.shape_run.specs.Cells.{IsScope, IsShape}
use Rattle.shape_run.proofs.program.bind_tables.Given as goal

abbrev pub invariant-loop-i : goal.invariant-loop-i
invariant-loop-i l = record {
  below : l.i ≤ length l.sig;
  table : (N : List Term) → IsShape N l.store.cells.items l.table (Wide 1 0 0);
  scope : (N : List Term) → IsScope N l.store.cells.items l.scope (table_shapes (drop l.i l.sig));
}

abbrev pub decreases-loop-i : goal.decreases-loop-i
decreases-loop-i l = l.i
