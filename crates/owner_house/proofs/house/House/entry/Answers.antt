use Rattle.std.proofs.Common.{◌≡◌, ◌<◌, ◌∙◌, length, slice_get, get_or, Some, sym, ap, subst, arith}
use Rattle.budget_core.specs.Entries.{Entry}
use Rattle.owner_house.specs.House.{Register, register_by, house_of}
use Rattle.owner_house.proofs.Owners.{in_catalog, entry_said}
use Rattle.owner_house.proofs.house.House.entry.Goals as goal

pub new_entry-requires : goal.new_entry-requires
new_entry-requires c =
    in_catalog (register_by c.self.inside.catalog c.self.inside.datasets.items c.self.inside.versions) c.self.invariant c.args.owner
    (subst (λ (r : Register). c.args.owner < length (house_of r).owners) (sym c.self.view_is) c.requires)

pub bounds-self-inside-owner : goal.bounds-self-inside-owner
bounds-self-inside-owner c =
    let register = register_by c.self.inside.catalog c.self.inside.datasets.items c.self.inside.versions in
    let within = in_catalog register c.self.invariant c.args.owner
    (subst (λ (r : Register). c.args.owner < length (house_of r).owners) (sym c.self.view_is) c.requires) in
    omega (arith, within, c.self.invariant.catalog.few_owners)

pub returns : goal.returns
returns c = λ asked at.
    let register = register_by c.self.inside.catalog c.self.inside.datasets.items c.self.inside.versions in
    c.with_version.ensures ∙ ap (λ (e : Entry). record e { version = get_or c.self.inside.versions c.args.owner 0 }) c.in_ok-entry.ensures
    ∙ entry_said register c.args.owner asked 0 (subst (λ (r : Register). slice_get (house_of r).owners c.args.owner ≡ Some asked) (sym c.self.view_is) at)
