use Rattle.std.proofs.Common.{◌<◌, length, arith, sym, subst}
use Rattle.std.proofs.lemmas.Grind.{common_steps}
use Rattle.catalog_loading.specs.Given.{loading_by}
use Rattle.catalog_loading.specs.Loaded.{KeyedHouse, owners_in}
use Rattle.catalog_loading.proofs.Hashes.{has_hashes}
use Rattle.catalog_loading.proofs.opening.Keyed.hashes.Goals as goal

pub index-requires : goal.index-requires
index-requires g c =
    let loading = loading_by (g.H.Registered.register c.self.inside.held) c.self.inside.hashes.items in
    let lawful = c.self.invariant.lawful in
    let within : c.args.owner < owners_in loading = subst (λ (h : KeyedHouse). c.args.owner < owners_in h.loading) (sym c.self.view_is) c.requires in
    let there : c.args.owner < length c.self.inside.hashes.items =
    has_hashes loading.register.catalog c.self.inside.hashes.items c.args.owner lawful.register.catalog within (lawful.hashed c.args.owner within) in
    grind (arith, common_steps, there)
