use Rattle.std.proofs.Common.{ap, sym, ◌∙◌}
use Rattle.fz_frac.specs.Sens.{distance_of}
use Rattle.derivation_lines.specs.declared.line.Said.{Said}
use Rattle.derivation_lines.proofs.line.Line.amount.Goals as goal

pub returns-in-Ok : goal.returns-in-Ok
returns-in-Ok c = ap (λ (s : Said). distance_of s.amount) c.index.ensures ∙ sym (c.in-Ok.ensures.amount c.index.result.now)
