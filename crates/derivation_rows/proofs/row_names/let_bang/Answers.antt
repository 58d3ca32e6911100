use Rattle.fz_ast.specs.Names.{name_of}
use Rattle.fz_ast.specs.TypeNodes.{type_at}
use Rattle.fz_frac.specs.Distance.{quotient}
use Rattle.fz_frac.specs.Sens.{distance_of}
use Rattle.derivation_lines.specs.Held.{lines_in}
use Rattle.derivation_rows.specs.Placed.{said_at}
use Rattle.derivation_rows.proofs.Factors.{let_bang_says, unbanged_says}
use Rattle.derivation_rows.proofs.row_names.let_bang.Goals as goal

pub returns-in-Some-quotient : goal.returns-in-Some-quotient
returns-in-Some-quotient c = λ T.
    let U = c.args.arena.now in
    let L = lines_in T c.args.lines.now in
    let x = c.args.x.now in
    let s = distance_of c.in-Some.parts.0 in
    let_bang_says U L x c.args.e c.args.b s (type_at U c.in-Some.parts.1) c.known.result c.in-Some.ensures.2
    (unbanged_says U L x c.args.e c.args.b c.in-Some-quotient.r (quotient (said_at L c.args.b.at (name_of x)) s) c.known.result c.requires.b_known c.known.ensures
    (rw (c.amount_at.ensures T) at c.in-Some-quotient.ensures))
