use Rattle.std.proofs.Common.{◌≡◌, List, drop}
use Rattle.fz_ast.specs.Types.{Ty}
use Rattle.derivation_rows.specs.Faults.{suffices_at}
use Rattle.derivation_lines.specs.Held.{lines_in}
use Rattle.derivation_lines.specs.Lines.{amount_in}
use Rattle.derivation_rows.specs.Placed.{number_of}
use Rattle.derivation_lines.specs.Said.{says_of}
use Rattle.derivation_rows.specs.Scoped.{context_in}
use Rattle.derivation_rows.proofs.scope.suffices_at.Given as goal

abbrev pub invariant-loop-bound : goal.invariant-loop-bound
invariant-loop-bound l =
    (T U : List Ty) → suffices_at (context_in T (drop l.bound-index l.scope)) (number_of (lines_in U l.lines) l.numbers) (amount_in (says_of l.line.says.items))
    ≡ suffices_at (context_in T l.scope) (number_of (lines_in U l.lines) l.numbers) (amount_in (says_of l.line.says.items))
