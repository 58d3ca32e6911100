use Rattle.std.proofs.Common.{◌≡◌, length, ap, ◌∙◌, sym, arith, subst, get_or}
use Rattle.std.specs.Prelude.{IfOk}
use Rattle.metric_values.specs.Values.{Value}
use Rattle.run_values.specs.Parts.{elements}
use Rattle.run_values.specs.Views.{form_view, IsValueForm}
use Rattle.run_values.proofs.Bags.{list_size, list_item}
use Rattle.run_values.proofs.value.Value.element.Goals as goal

pub index-requires : goal.index-requires
index-requires c =
    let h = list_size c.args.self.now c.in-List.rc.value.items (ap elements (sym c.self.view_is ∙ ap form_view c.in-List.is)) in
    let n = ap (λ v. length v.items) c.deref.ensures in
    omega (arith, h, n, c.requires.within, c.deref.result.now.ok.0)

pub returns : goal.returns
returns c =
    let vs = c.in-List.rc.value.items in
    let e = ap elements (sym c.self.view_is ∙ ap form_view c.in-List.is) in
    let h = list_size c.args.self.now vs e in
    let f = subst IsValueForm c.in-List.is c.self.invariant in
    let k = list_item c.args.self.now vs e f c.index.result.now c.args.i (omega (arith, h, c.requires.within)) in
    let i : c.index.result.now ≡ get_or vs c.args.i c.index.result.now = c.index.ensures ∙ ap (λ v. get_or v.items c.args.i c.index.result.now) c.deref.ensures in
    subst (λ (w : Value). IfOk c.copy.result (λ v. v ≡ w)) (i ∙ k) c.copy.ensures
