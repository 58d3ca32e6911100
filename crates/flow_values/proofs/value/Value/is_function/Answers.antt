use Rattle.std.proofs.Common.{ap, subst, sym, ◌∙◌}
use Rattle.run_values.specs.Parts.{IsClosure}
use Rattle.flow_values.specs.Views.{IsValueForm, form_view}
use Rattle.flow_values.proofs.Closures.{closure_is}
use Rattle.flow_values.proofs.value.Value.is_function.Goals as goal

pub returns-in-Fun-clause-yes : goal.returns-in-Fun-clause-yes
returns-in-Fun-clause-yes c = λ h.
    let e = ap (λ h. h.means) (sym c.self.view_is ∙ ap form_view c.in-Fun.is) in
    let known = subst IsValueForm c.in-Fun.is c.self.invariant in
    subst IsClosure (sym e) (closure_is _ _ known.function)
