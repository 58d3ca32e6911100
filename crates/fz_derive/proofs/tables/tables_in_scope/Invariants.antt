use Rattle.std.proofs.Common.{take, ◌<◌}
use Rattle.fz_ast.specs.Arena.{Grows}
use Rattle.fz_ast.specs.Signature.{IsSignature}
use Rattle.fz_derive.proofs.TableNames.{AreTables}
use Rattle.fz_derive.proofs.tables.tables_in_scope.Given as goal

abbrev pub invariant-loop-i : goal.invariant-loop-i
invariant-loop-i l = record { grows : Grows l.fn.arena l.arena; signature : 0 < l.i → IsSignature l.sig; tables : AreTables l.arena l.scope.items (take l.i l.sig) }
