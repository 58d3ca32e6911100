-- The numbers of all groups are there.
use Rattle.std.proofs.Common.{◌≡◌, ◌∙◌, ℕ, List, Vec, Global, flat_map, ap, sym, subst}
use Rattle.std.proofs.lemmas.List.{take_all}
use Rattle.metric_values.specs.Cells.{AreRows}
use Rattle.part_views.proofs.Making.{flat_there}
use Rattle.part_views.proofs.division.sorted.Goals as goal

abbrev numbers : Vec ℕ Global → List ℕ
numbers group = group.items

pub gathered-requires-clause-there : goal.gathered-requires-clause-there
gathered-requires-clause-there c =
    let groups = c.args.groups.now in
    let all : c.deref-2.result.now ≡ flat_map numbers groups =
    c.deref-2.ensures.value ∙ c.loop-group.invariant.so_far
    ∙ ap (λ (gs : List (Vec ℕ Global)). flat_map numbers gs) (take_all c.loop-group.group-index groups c.loop-group-test.false) in
    subst (AreRows c.args.table.now) (sym all) (flat_there numbers c.args.table.now groups c.requires.there)
