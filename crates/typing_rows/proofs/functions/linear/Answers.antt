use Rattle.fz_ast.specs.TypeNodes.{type_at}
use Rattle.typing_rows.proofs.Answering.{first_by, too_sensitive}
use Rattle.typing_rows.proofs.functions.linear.Goals as goal

pub returns-then-not-le-clause-says : goal.returns-then-not-le-clause-says
returns-then-not-le-clause-says c = λ D h.
    too_sensitive c.args.arena.now c.args.s c.args.u c.args.x c.first_of-r.result c.whole.result (type_at c.args.arena.now c.args.t) (type_at c.args.arena.now c.args.o.now.ty) D c.in_ok-written.ensures.ok c.if-not-le.ensures c.whole.ensures
    (first_by c.args.o.now.amounts.items c.deref.result.now D c.first_of-r.result c.deref.ensures.value c.first_of-r.ensures h)
