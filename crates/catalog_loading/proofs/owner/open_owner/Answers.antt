use Rattle.std.proofs.Common.{◌∙◌, refl, rules}
use Rattle.catalog_loading.specs.Loaded.{keyed_owner_read}
use Rattle.catalog_loading.proofs.Holdings.{owner_hashes}
use Rattle.catalog_loading.proofs.Reached.{all_done, begun, decided, one_more, passed, stopped, undecided}
use Rattle.catalog_loading.proofs.owner.open_owner.Goals as goal

pub returns-in_err-catalog-clause-step : goal.returns-in_err-catalog-clause-step
returns-in_err-catalog-clause-step g c =
    passed _ _ _ _ _ _ c.from_residual.result (stopped _ _ _ _ _ _ _ _ _ (begun _ _ (keyed_owner_read c.args.catalog.now c.args.key.now c.args.owner.now)) refl c.in_err-catalog.ensures.step) c.from_residual.ensures.1

pub returns-in_err-number-clause-step : goal.returns-in_err-number-clause-step
returns-in_err-number-clause-step g c =
    let catalog = one_more _ _ _ _ _ _ _ _ _ (begun _ _ (keyed_owner_read c.args.catalog.now c.args.key.now c.args.owner.now)) refl c.in_ok-catalog.ensures.step in
    passed _ _ _ _ _ _ c.from_residual-in_err-number.result (stopped _ _ _ _ _ _ _ _ _ catalog c.in_ok-catalog.ensures.same (undecided _ _ _ _ c.in_err-number.ensures.number)) c.from_residual-in_err-number.ensures.1

pub returns-in_err-key-clause-step : goal.returns-in_err-key-clause-step
returns-in_err-key-clause-step g c =
    let catalog = one_more _ _ _ _ _ _ _ _ _ (begun _ _ (keyed_owner_read c.args.catalog.now c.args.key.now c.args.owner.now)) refl c.in_ok-catalog.ensures.step in
    let number = one_more _ _ _ _ _ _ _ _ _ catalog c.in_ok-catalog.ensures.same (decided _ _ _ _ c.in_ok-number.ensures.number) in
    passed _ _ _ _ _ _ c.from_residual-in_err-key.result (stopped _ _ _ _ _ _ _ _ _ number c.in_ok-catalog.ensures.same c.in_err-key.ensures.step) c.from_residual-in_err-key.ensures.1

pub returns-in_err-loaded-clause-step : goal.returns-in_err-loaded-clause-step
returns-in_err-loaded-clause-step g c =
    let same = c.in_ok-key.ensures.same ∙ c.in_ok-catalog.ensures.same in
    let catalog = one_more _ _ _ _ _ _ _ _ _ (begun _ _ (keyed_owner_read c.args.catalog.now c.args.key.now c.args.owner.now)) refl c.in_ok-catalog.ensures.step in
    let number = one_more _ _ _ _ _ _ _ _ _ catalog c.in_ok-catalog.ensures.same (decided _ _ _ _ c.in_ok-number.ensures.number) in
    let key = one_more _ _ _ _ _ _ _ _ _ number c.in_ok-catalog.ensures.same c.in_ok-key.ensures.step in
    passed _ _ _ _ _ _ c.from_residual-in_err-loaded.result (stopped _ _ _ _ _ _ _ _ _ key same c.in_err-loaded.ensures.step) c.from_residual-in_err-loaded.ensures.1

pub returns-clause-step : goal.returns-clause-step
returns-clause-step g c =
    let steps = keyed_owner_read c.args.catalog.now c.args.key.now c.args.owner.now in
    let same = c.in_ok-key.ensures.same ∙ c.in_ok-catalog.ensures.same in
    let catalog = one_more _ _ _ _ _ _ _ _ _ (begun _ _ steps) refl c.in_ok-catalog.ensures.step in
    let number = one_more _ _ _ _ _ _ _ _ _ catalog c.in_ok-catalog.ensures.same (decided _ _ _ _ c.in_ok-number.ensures.number) in
    let key = one_more _ _ _ _ _ _ _ _ _ number c.in_ok-catalog.ensures.same c.in_ok-key.ensures.step in
    all_done _ _ _ steps _ (one_more _ _ _ _ _ _ _ _ _ key same c.in_ok-loaded.ensures.step)

pub invariant_of-result : goal.invariant_of-result
invariant_of-result g c = record {
  catalog = search rules;
  known = c.in_ok-number.ensures.owner.within;
  hashed = owner_hashes _ _ _ c.in_ok-catalog.catalog c.in_ok-number.number _ (search rules) c.in_ok-number.ensures.owner.within c.in_ok-loaded.ensures.step;
  whole_key = search rules;
}
