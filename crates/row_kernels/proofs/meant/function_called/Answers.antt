use Rattle.std.proofs.Common.{ap, ◌∙◌}
use Rattle.fz_ast.specs.Names.{name_of}
use Rattle.fz_ast.specs.TermNodes.{term_at, term_of}
use Rattle.fz_ast.specs.TypeNodes.{type_at}
use Rattle.flow_values.specs.Founds.{IsFoundFunction}
use Rattle.row_kernels.specs.Calls.{IsCalled}
use Rattle.row_kernels.proofs.Given.{by_some, called}
use Rattle.row_kernels.proofs.meant.function_called.Goals as goal

pub returns-then-is_free : goal.returns-then-is_free
returns-then-is_free c =
    let N = c.args.nodes.now in
    let fs = c.args.frames.now in
    let γ = c.args.outer.now.means in
    let t = term_at N.terms c.args.f in
    let x = name_of c.in-Var.name in
    by_some c.find_function.result (λ k. IsFoundFunction γ x k.now) (λ k. IsCalled fs γ t k.now) c.find_function.ensures
    (λ k h. called fs γ t c.node.result.now.span x k.now (c.node.ensures.form ∙ ap (term_of (type_at N.types) (term_at N.terms) c.node.result.now.span) c.in-Var.is) (c.is_free.ensures c.if-is_free.true) h)
