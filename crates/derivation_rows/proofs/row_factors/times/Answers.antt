use Rattle.std.specs.Prelude.{unsigned_abs}
use Rattle.fz_frac.specs.Distance.{Fin}
use Rattle.derivation_rows.proofs.Factors.{held, scaled}
use Rattle.derivation_rows.proofs.row_factors.times.Goals as goal

pub returns-in-Some : goal.returns-in-Some
returns-in-Some c = λ L. rw (← c.if-not-is_number.ensures) (scaled c.args.arena.now L c.args.e c.in-Some.r (Fin (unsigned_abs c.args.k) 1) c.formed.result c.formed.ensures (rw (c.unsigned_abs.ensures.value, held c.args.k c.requires.number) at c.in-Some.ensures))
