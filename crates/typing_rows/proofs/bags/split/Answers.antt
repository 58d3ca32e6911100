use Rattle.fz_ast.specs.TypeNodes.{type_at}
use Rattle.linear_types.specs.Rule.{halves}
use Rattle.typing_rows.proofs.Answering.{test_says}
use Rattle.typing_rows.proofs.bags.split.Goals as goal

pub returns-else-not-is_truth-clause-says : goal.returns-else-not-is_truth-clause-says
returns-else-not-is_truth-clause-says c = λ D E g h.
    let T = c.args.arena.now in
    test_says c.halved.new.arena c.halved.result halves c.args.s c.args.u c.args.v (type_at T c.args.o.now.ty) (type_at T c.in-Some.a) (type_at T c.in-Some.c) (type_at T c.args.p.now.ty) D E c.in-Some.ensures.2 c.if-not-is_truth.ensures (c.halved.ensures.says D E g h)
