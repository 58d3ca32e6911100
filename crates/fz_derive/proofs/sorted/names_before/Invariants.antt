use Rattle.fz_ast.specs.Names.{name_of}
use Rattle.fz_derive.specs.Putting.{names_in}
use Rattle.fz_derive.proofs.Putting.{IsAt}
use Rattle.fz_derive.proofs.sorted.names_before.Given as goal

abbrev pub invariant-loop-i : goal.invariant-loop-i
invariant-loop-i l = IsAt (name_of l.x) (names_in l.names) l.i
