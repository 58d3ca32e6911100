use Rattle.std.proofs.Common.{take}
use Rattle.fz_ast.specs.Names.{name_of}
use Rattle.sensitivity_check.specs.Scope.{IsUnbound}
use Rattle.sensitivity_check.proofs.scope.place_of.Given as goal

abbrev pub invariant-loop-i : goal.invariant-loop-i
invariant-loop-i l = IsUnbound (name_of l.name) (take l.i l.scope)
