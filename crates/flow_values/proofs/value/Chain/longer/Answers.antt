use Rattle.std.proofs.Common.{◌++◌, ◌∷◌, [], refl, subst, sym}
use Rattle.flow_values.specs.Held.{HeldChain}
use Rattle.flow_values.specs.Steps.{AreAllMaps, Step}
use Rattle.flow_values.specs.Views.{IsJoint, IsKnown, step_by}
use Rattle.flow_values.proofs.value.Chain.longer.Goals as goal

pub invariant_of-result : goal.invariant_of-result
invariant_of-result c =
    let s : Step = step_by c.in_ok-clone.field-0.value c.args.left c.args.keeps in
    subst IsJoint (sym c.in-Ok.ensures.ok) (record {
      known = subst IsKnown (sym c.in_ok-clone.ensures.cases) c.requires;
      maps = λ h. subst (λ (x : HeldChain). AreAllMaps (x.steps ++ s ∷ [])) (sym c.in_ok-copy.ensures) (c.has_only_maps_with.ensures s refl h);
    })
