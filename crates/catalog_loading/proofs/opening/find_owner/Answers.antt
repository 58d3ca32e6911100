use Rattle.std.proofs.Common.{◌≡◌, ◌∙◌, List, ℕ, None, Some, sym, ap, subst, bytes_eq}
use Rattle.std.specs.Prelude.{position, ok_or}
use Rattle.owner_catalog.specs.Entries.{OwnerEntry}
use Rattle.catalog_loading.specs.Loaded.{number_named}
use Rattle.catalog_loading.proofs.FileReads.{refusal_decided}
use Rattle.catalog_loading.proofs.Owners.{owner_found, owner_missing}
use Rattle.catalog_loading.proofs.opening.find_owner.Goals as goal

pub returns-in-Some : goal.returns-in-Some
returns-in-Some c =
    let place = subst (λ (name : List ℕ). position (λ (owner : OwnerEntry). bytes_eq name owner.name) c.args.catalog.now.owners ≡ Some c.in-Some.owner) c.as_bytes.ensures.value
    (sym c.owner.ensures ∙ c.in-Some.is) in
    record { owner = owner_found c.args.catalog.now c.args.name.now c.in-Some.owner place; number = ap (λ found. ok_or found c.args.name.now) place }

pub returns-in-None : goal.returns-in-None
returns-in-None c =
    let place = subst (λ (name : List ℕ). position (λ (owner : OwnerEntry). bytes_eq name owner.name) c.args.catalog.now.owners ≡ None) c.as_bytes.ensures.value
    (sym c.owner.ensures ∙ c.in-None.is) in
    record {
      owner = owner_missing c.args.catalog.now c.args.name.now c.refuse.result place c.refuse.ensures;
      number = refusal_decided c.args.name.now (number_named c.args.catalog.now c.args.name.now) c.refuse.result (ap (λ found. ok_or found c.args.name.now) place) c.refuse.ensures;
    }
