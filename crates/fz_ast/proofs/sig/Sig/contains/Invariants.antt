-- What the loop of sig::Sig::contains keeps.
use Rattle.std.proofs.Common.{take}
use Rattle.fz_ast.specs.Signature.{IsFresh}
use Rattle.fz_ast.specs.Tables.{signature_of}
use Rattle.fz_ast.proofs.sig.Sig.contains.Given as goal

abbrev pub invariant-loop-table : goal.invariant-loop-table
invariant-loop-table l = IsFresh l.name (signature_of (take l.table-index l.table-items))
