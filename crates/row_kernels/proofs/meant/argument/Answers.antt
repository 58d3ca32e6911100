use Rattle.std.proofs.Common.{ap, subst, sym, ◌∙◌}
use Rattle.fz_ast.specs.TermNodes.{term_at, term_of}
use Rattle.fz_ast.specs.TypeNodes.{type_at}
use Rattle.fz_ast.specs.declared.term.Arrow.{Arrow}
use Rattle.fz_frac.specs.Sens.{distance_of}
use Rattle.row_kernels.specs.Calls.{IsArgument}
use Rattle.row_kernels.proofs.Given.{bang_argument}
use Rattle.row_kernels.proofs.meant.argument.Goals as goal

pub returns-in-Bang-clause-is : goal.returns-in-Bang-clause-is
returns-in-Bang-clause-is c =
    let N = c.args.nodes.now in
    subst (λ (o : Arrow). IsArgument o (term_at N.terms c.args.a) (term_at N.terms c.in-Bang.e)) (sym c.in-Fn.is)
    (bang_argument (term_at N.terms c.args.a) c.node.result.now.span (distance_of c.in-Bang.field-0) (term_at N.terms c.in-Bang.e) (c.node.ensures.form ∙ ap (term_of (type_at N.types) (term_at N.terms) c.node.result.now.span) c.in-Bang.is))
