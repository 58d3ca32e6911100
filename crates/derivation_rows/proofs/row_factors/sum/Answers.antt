use Rattle.std.specs.Prelude.{max, unsigned_abs}
use Rattle.fz_frac.specs.Distance.{Fin}
use Rattle.derivation_rows.proofs.Factors.{held, scaled}
use Rattle.derivation_rows.proofs.row_factors.sum.Goals as goal

pub returns-in-Some : goal.returns-in-Some
returns-in-Some c = λ L. rw (← c.if-not-is_number_bag.ensures) (scaled c.args.arena.now L c.args.e c.in-Some.r (Fin (max (unsigned_abs c.args.lo) (unsigned_abs c.args.hi)) 1) c.formed.result c.formed.ensures (rw (c.max.ensures, c.unsigned_abs.ensures.value, c.unsigned_abs-2.ensures.value, held c.args.lo c.requires.lo_number, held c.args.hi c.requires.hi_number) at c.in-Some.ensures))
