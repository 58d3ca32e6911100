use Rattle.std.proofs.Common.{◌<◌, ◌∙◌, length, slice_get, Some, sym, ap, subst, arith}
use Rattle.std.proofs.lemmas.Option.{slice_get-get_or}
use Rattle.part_views.specs.Holding.{Holding}
use Rattle.owner_house.specs.House.{Register, register_by, house_of}
use Rattle.owner_house.proofs.Owners.{in_holdings}
use Rattle.owner_house.proofs.house.House.dataset.Goals as goal

pub index-requires : goal.index-requires
index-requires c =
    let within = in_holdings (register_by c.self.inside.catalog c.self.inside.datasets.items c.self.inside.versions) c.self.invariant c.args.owner
    (subst (λ (r : Register). c.args.owner < length (house_of r).owners) (sym c.self.view_is) c.requires) in
    omega (arith, within, c.self.inside.datasets.ok.0)

pub returns-clause-holding : goal.returns-clause-holding
returns-clause-holding c =
    let within = in_holdings (register_by c.self.inside.catalog c.self.inside.datasets.items c.self.inside.versions) c.self.invariant c.args.owner
    (subst (λ (r : Register). c.args.owner < length (house_of r).owners) (sym c.self.view_is) c.requires) in
    ap (λ (r : Register). slice_get r.holdings c.args.owner) (sym c.self.view_is)
    ∙ slice_get-get_or c.self.inside.datasets.items c.args.owner c.index.result.now within ∙ ap (λ (h : Holding). Some h) (sym c.index.ensures)
