use Rattle.std.proofs.Common.{◌∙◌}
use Rattle.fz_frac.specs.Sens.{distance_of}
use Rattle.derivation_rows.proofs.Scopes.{suffices_by}
use Rattle.derivation_rows.proofs.scope.suffices.Goals as goal

pub returns-in-Ok : goal.returns-in-Ok
returns-in-Ok c = λ o h. c.le.ensures ∙ suffices_by c.args.number c.in-Ok.number (distance_of c.args.said) o c.in-Ok.is h
