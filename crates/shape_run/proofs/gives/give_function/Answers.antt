use Rattle.std.proofs.Common.{refl}
use Rattle.fz_ast.specs.Names.{name_of}
use Rattle.fz_ast.specs.TermNodes.{term_at}
use Rattle.shape_run.specs.Rules.{function_shape}
use Rattle.shape_run.proofs.gives.give_function.Goals as goal

pub give-requires : goal.give-requires
give-requires c =
    let r = c.requires in
    let p = function_shape c.args.arrow (name_of c.args.name) (term_at r.0 c.args.body) r.1 in
    (r.0, p, c.in-Ok.ensures.is r.0 p (r.1, r.2, r.3, refl))

pub returns-clause-is : goal.returns-clause-is
returns-clause-is c = λ N σ h l.
    let p = function_shape c.args.arrow (name_of c.args.name) (term_at N c.args.body) σ in
    c.give.ensures N p (c.in-Ok.ensures.is N p (σ, h, l, refl))
