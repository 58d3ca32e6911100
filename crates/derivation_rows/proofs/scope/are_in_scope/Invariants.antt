use Rattle.std.proofs.Common.{◌≡◌, List, drop}
use Rattle.fz_ast.specs.Types.{Ty}
use Rattle.derivation_rows.specs.Faults.{are_in_scope}
use Rattle.derivation_lines.specs.Said.{says_of}
use Rattle.derivation_rows.specs.Scoped.{context_in}
use Rattle.derivation_rows.proofs.scope.are_in_scope.Given as goal

abbrev pub invariant-loop-said : goal.invariant-loop-said
invariant-loop-said l = (T : List Ty) → are_in_scope (context_in T l.scope) (says_of (drop l.said-index l.says)) ≡ are_in_scope (context_in T l.scope) (says_of l.says)
