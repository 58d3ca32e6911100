use Rattle.std.proofs.Common.{◌<◌, length, sym, subst, arith}
use Rattle.owner_house.specs.House.{Register, register_by, house_of}
use Rattle.owner_house.proofs.Owners.{in_catalog}
use Rattle.owner_house.proofs.house.House.set_version.Goals as goal

pub bounds-self-inside-owner : goal.bounds-self-inside-owner
bounds-self-inside-owner c =
    let register = register_by c.self.inside.catalog c.self.inside.datasets.items c.self.inside.versions in
    let within = in_catalog register c.self.invariant c.args.owner
    (subst (λ (r : Register). c.args.owner < length (house_of r).owners) (sym c.self.view_is) c.requires) in
    omega (arith, within, c.self.invariant.catalog.few_owners)
