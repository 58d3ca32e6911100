use Rattle.std.proofs.Common.{◌≡◌, List, drop}
use Rattle.fz_ast.specs.Names.{name_of}
use Rattle.fz_ast.specs.Types.{Ty}
use Rattle.derivation_rows.specs.Rows.{type_in}
use Rattle.derivation_rows.specs.Scoped.{context_in}
use Rattle.derivation_rows.proofs.scope.type_in.Given as goal

-- the type is that in the rest
abbrev pub invariant-loop-bound : goal.invariant-loop-bound
invariant-loop-bound l = (T : List Ty) → type_in (context_in T (drop l.bound-index l.scope)) (name_of l.name) ≡ type_in (context_in T l.scope) (name_of l.name)
