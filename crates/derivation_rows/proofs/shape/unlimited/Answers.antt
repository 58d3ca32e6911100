use Rattle.std.proofs.Common.{ap, ◌∙◌}
use Rattle.fz_frac.specs.Distance.{Inf}
use Rattle.fz_ast.specs.Types.{ArrowT, BangT}
use Rattle.fz_ast.specs.TypeNodes.{type_at}
use Rattle.fz_ast.proofs.Arenas.{grows_at, grows_known, grows_trans}
use Rattle.derivation_rows.proofs.Shapes.{number_by}
use Rattle.derivation_rows.proofs.shape.unlimited.Goals as goal

pub returns-clause-is : goal.returns-clause-is
returns-clause-is c =
    let T = c.args.arena.now in
    let U = c.intern.new.self in
    let f = grows_at T U c.args.b c.requires.b_known c.in_ok-taken.ensures.grows in
    let g = ap (λ A. ArrowT A (type_at U c.args.b)) c.in_ok-taken.ensures.is.1 ∙ ap (ArrowT (BangT Inf (type_at T c.args.a))) f in
    number_by c.intern-2.result c.intern-2.new.self (ArrowT (type_at U c.in_ok-taken.taken) (type_at U c.args.b)) (ArrowT (BangT Inf (type_at T c.args.a)) (type_at T c.args.b)) g c.intern-2.ensures.is

pub intern-requires-clause-known : goal.intern-requires-clause-known
intern-requires-clause-known c = c.requires.a_known

pub returns-in_err-taken-clause-grows : goal.returns-in_err-taken-clause-grows
returns-in_err-taken-clause-grows c = c.in_err-taken.ensures.grows

pub intern-requires-2-clause-known : goal.intern-requires-2-clause-known
intern-requires-2-clause-known c = (c.in_ok-taken.ensures.is.0, grows_known c.args.arena.now c.intern.new.self c.args.b c.requires.b_known c.in_ok-taken.ensures.grows)

pub intern-requires-2-clause-bang : goal.intern-requires-2-clause-bang
intern-requires-2-clause-bang c = tt

pub returns-clause-grows : goal.returns-clause-grows
returns-clause-grows c = grows_trans c.args.arena.now c.intern.new.self c.intern-2.new.self c.in_ok-taken.ensures.grows c.intern-2.ensures.grows
