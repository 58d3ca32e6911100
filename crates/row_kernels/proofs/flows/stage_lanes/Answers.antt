use Rattle.std.proofs.Common.{List, ◌<◌, ap, arith, length, subst, sym, ◌∙◌}
use Rattle.fz_ast.specs.Parts.{Parts}
use Rattle.fz_ast.specs.TermNodes.{IsKnown, term_at}
use Rattle.fz_ast.specs.TypeNodes.{type_at}
use Rattle.fz_ast.specs.declared.term.Form.{Form}
use Rattle.flow_values.specs.Views.{closure_value}
use Rattle.row_kernels.specs.declared.frames.Frame.{Frame}
use Rattle.row_kernels.specs.Flows.{AreImaged}
use Rattle.row_kernels.specs.Lanes.{AllLong, AreMeant}
use Rattle.row_kernels.proofs.Given.{by_answer}
use Rattle.row_kernels.proofs.Passing.{fn_closure, imaged}
use Rattle.row_kernels.proofs.flows.stage_lanes.Goals as goal

pub lanes_of-requires-clause-known : goal.lanes_of-requires-clause-known
lanes_of-requires-clause-known c =
    let f = c.args.function.now in
    let k = subst (λ (g : Form). IsKnown (length c.deref.result.now.types) f.lambda g) c.in-Lambda.is c.node.ensures.known in
    let below : c.in-Lambda.body < length f.nodes.value.terms = omega (arith, k.1, c.requires.known.known) in
    subst (λ (N : Parts). c.in-Lambda.body < length N.terms) (sym c.deref-2.ensures) below

pub lanes_of-requires-clause-long : goal.lanes_of-requires-clause-long
lanes_of-requires-clause-long c = subst (λ (fs : List Frame). AllLong c.args.len fs) (sym c.in_ok-frames.ensures) (c.requires.long, tt)

pub returns : goal.returns
returns c =
    let k = c.args.function.now in
    let n = c.args.len in
    let D = c.deref.result.now in
    let inner = c.in_ok-frames.frames in
    let whole = ap (λ (P : Parts). term_at P.terms k.lambda) (sym c.deref.ensures) ∙ c.node.ensures.form in
    let is = fn_closure (term_at k.nodes.value.terms k.lambda) k.scope.means (type_at D.types) (term_at D.terms) c.node.result.now.span c.node.result.now.form c.in-Lambda.arrow c.in-Lambda.name c.in-Lambda.field-2 c.in-Lambda.field-3 c.in-Lambda.body
    whole c.in-Lambda.is c.in-Fn.is in
    by_answer c.lanes_of.result (AreMeant inner k.scope.means (term_at c.deref-2.result.now.terms c.in-Lambda.body) n) (AreImaged (closure_value k) n c.args.lanes) c.lanes_of.ensures
    (λ l h. imaged (closure_value k) c.in-Lambda.name (term_at D.terms c.in-Lambda.body) k.scope.means n c.args.lanes l inner is c.in_ok-frames.ensures
    (subst (λ (P : Parts). AreMeant inner k.scope.means (term_at P.terms c.in-Lambda.body) n l) (c.deref-2.ensures ∙ sym c.deref.ensures) h))
