use Rattle.std.proofs.Common.{◌≡◌, ◌++◌, [], length}
use Rattle.fz_ast.specs.TypeNodes.{type_at}
use Rattle.derivation_lines.specs.Pending.{AreHeldPieces, pending}
use Rattle.derivation_lines.specs.Written.{type_text}
use Rattle.derivation_lines.proofs.write.put_type.Given as goal

abbrev pub invariant-loop-piece : goal.invariant-loop-piece
invariant-loop-piece l = record { same : l.out.items ++ pending l.types l.left.items [] ≡ l.fn.out.items ++ type_text (type_at l.types l.ty); held : AreHeldPieces l.types l.left.items }

abbrev pub decreases-loop-piece : goal.decreases-loop-piece
decreases-loop-piece l = length (pending l.types l.left.items [])
