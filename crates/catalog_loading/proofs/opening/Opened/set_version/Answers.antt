use Rattle.std.proofs.Common.{◌≡◌, ◌∙◌, ◌<◌, length, sym, subst, ℕ}
use Rattle.std.specs.Prelude.{slice_set}
use Rattle.std.proofs.lemmas.List.{length-set}
use Rattle.owner_house.specs.House.{Register}
use Rattle.owner_house.proofs.Owners.{owners_length}
use Rattle.catalog_loading.specs.Loaded.{IsKeyedHouse, KeyedHouse, keyed, owners_in}
use Rattle.catalog_loading.specs.Given.{loading_by}
use Rattle.catalog_loading.proofs.opening.Opened.set_version.Goals as goal

pub set_version-requires : goal.set_version-requires
set_version-requires c =
    let within : c.args.owner < owners_in (loading_by c.self.inside.held c.self.inside.hashes.items) =
    subst (λ (h : KeyedHouse). c.args.owner < owners_in h.loading) (sym c.self.view_is) c.requires in
    subst (λ (n : ℕ). c.args.owner < n) (sym (owners_length c.self.inside.held c.self.invariant.lawful.register)) within

pub invariant_of-self : goal.invariant_of-self
invariant_of-self c =
    let house = c.self.inside.held in
    let lawful = c.self.invariant.lawful in
    let same : length (slice_set house.versions c.args.owner c.args.version) ≡ length house.versions = length-set house.versions c.args.owner c.args.version in
    subst (λ (r : Register). IsKeyedHouse (keyed (loading_by r c.self.inside.hashes.items) c.self.inside.key)) (sym c.set_version.ensures)
    (record {
      lawful = record {
        register = record { catalog = lawful.register.catalog; each_has = lawful.register.each_has; versioned = same ∙ lawful.register.versioned; holds = lawful.register.holds };
        hashed = lawful.hashed;
      };
      whole_key = c.self.invariant.whole_key;
    })
