use Rattle.std.proofs.Common.{length, ap, ◌∙◌, sym, arith}
use Rattle.run_values.specs.Parts.{elements}
use Rattle.run_values.specs.Views.{form_view}
use Rattle.run_values.proofs.Bags.{list_size}
use Rattle.run_values.proofs.value.Value.size.Goals as goal

pub returns : goal.returns
returns c =
    let h = list_size c.args.self.now c.in-List.rc.value.items (ap elements (sym c.self.view_is ∙ ap form_view c.in-List.is)) in
    let n = ap (λ v. length v.items) c.deref.ensures in
    omega (arith, h, n, c.len.ensures, c.deref.result.now.ok.0)
