use Rattle.std.proofs.Common.{◌∙◌, refl, sym, subst, rules}
use Rattle.owner_house.specs.House.{Register}
use Rattle.catalog_loading.specs.Loaded.{IsLoading, house_read, keyed}
use Rattle.catalog_loading.specs.Given.{loading_by}
use Rattle.catalog_loading.proofs.Reached.{IsDone, all_done, begun, one_more, passed, stopped}
use Rattle.catalog_loading.proofs.opening.open_tables.Goals as goal

pub returns-in_err-catalog-clause-step : goal.returns-in_err-catalog-clause-step
returns-in_err-catalog-clause-step g c =
    passed _ _ _ _ _ _ c.from_residual.result (stopped _ _ _ _ _ _ _ _ _ (begun _ _ (house_read c.args.catalog.now c.args.key.now)) refl c.in_err-catalog.ensures.step) c.from_residual.ensures.1

pub returns-in_err-key-clause-step : goal.returns-in_err-key-clause-step
returns-in_err-key-clause-step g c =
    let catalog = one_more _ _ _ _ _ _ _ _ _ (begun _ _ (house_read c.args.catalog.now c.args.key.now)) refl c.in_ok-catalog.ensures.step in
    passed _ _ _ _ _ _ c.from_residual-in_err-key.result (stopped _ _ _ _ _ _ _ _ _ catalog c.in_ok-catalog.ensures.same c.in_err-key.ensures.step) c.from_residual-in_err-key.ensures.1

pub returns-in_err-loaded-clause-step : goal.returns-in_err-loaded-clause-step
returns-in_err-loaded-clause-step g c =
    let catalog = one_more _ _ _ _ _ _ _ _ _ (begun _ _ (house_read c.args.catalog.now c.args.key.now)) refl c.in_ok-catalog.ensures.step in
    let key = one_more _ _ _ _ _ _ _ _ _ catalog c.in_ok-catalog.ensures.same c.in_ok-key.ensures.step in
    passed _ _ _ _ _ _ c.from_residual-in_err-loaded.result (stopped _ _ _ _ _ _ _ _ _ key (c.in_ok-key.ensures.same ∙ c.in_ok-catalog.ensures.same) c.in_err-loaded.ensures.step) c.from_residual-in_err-loaded.ensures.1

pub new-held-requires : goal.new-held-requires
new-held-requires g c = record { each_has = c.in_ok-loaded.ensures.each_has; register = c.in_ok-loaded.ensures.loading.register }

pub returns-clause-step : goal.returns-clause-step
returns-clause-step g c =
    let steps = house_read c.args.catalog.now c.args.key.now in
    let hashes = c.in_ok-loaded.loaded.hashes.items in
    let catalog = one_more _ _ _ _ _ _ _ _ _ (begun _ _ steps) refl c.in_ok-catalog.ensures.step in
    let key = one_more _ _ _ _ _ _ _ _ _ catalog c.in_ok-catalog.ensures.same c.in_ok-key.ensures.step in
    subst (λ (register : Register). IsDone (g.F.Files.held c.args.files.now) (g.F.Files.names c.args.files.now) (g.F.Files.names c.load_all.new.files) steps (keyed (loading_by register hashes) c.in_ok-key.key)) (sym c.new-held.ensures)
    (all_done _ _ _ steps _ (one_more _ _ _ _ _ _ _ _ _ key (c.in_ok-key.ensures.same ∙ c.in_ok-catalog.ensures.same) c.in_ok-loaded.ensures.step))

pub invariant_of-result : goal.invariant_of-result
invariant_of-result g c = record {
  lawful = subst (λ (register : Register). IsLoading (loading_by register c.in_ok-loaded.loaded.hashes.items)) (sym c.new-held.ensures) c.in_ok-loaded.ensures.loading;
  whole_key = search rules;
}
