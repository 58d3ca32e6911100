use Rattle.std.proofs.Common.{List, take}
use Rattle.fz_ast.specs.Types.{Ty}
use Rattle.derivation_lines.specs.Counted.{AreCounts, IsCount}
use Rattle.derivation_lines.specs.Held.{lines_in}
use Rattle.derivation_lines.specs.Written.{derivation_text}
use Rattle.derivation_lines.proofs.count.lines_length.Given as goal

abbrev pub invariant-loop-line : goal.invariant-loop-line
invariant-loop-line l = (T : List Ty) → AreCounts T l.lengths → IsCount (derivation_text (lines_in T (take l.line-index l.lines))) l.length
