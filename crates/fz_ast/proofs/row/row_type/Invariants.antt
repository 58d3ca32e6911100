-- What the loop of row::row_type keeps.
use Rattle.std.proofs.Common.{◌≡◌, ◌<◌, length, drop}
use Rattle.fz_ast.specs.TypeNodes.{type_at}
use Rattle.fz_ast.specs.Rows.{row_type}
use Rattle.fz_ast.proofs.row.row_type.Given as goal

abbrev pub invariant-loop-i : goal.invariant-loop-i
invariant-loop-i l = record { below : l.i < length l.columns; known : l.row < length l.types; is : type_at l.types l.row ≡ row_type (drop l.i l.columns) }

abbrev pub decreases-loop-i : goal.decreases-loop-i
decreases-loop-i l = l.i
