use Rattle.std.proofs.Common.{◌≡◌, take}
use Rattle.derivation_lines.specs.Held.{lines_in}
use Rattle.derivation_lines.specs.Written.{derivation_text}
use Rattle.derivation_lines.proofs.write.put_lines.Given as goal

abbrev pub invariant-loop-line : goal.invariant-loop-line
invariant-loop-line l = l.out.items ≡ derivation_text (lines_in l.types (take l.line-index l.lines))
