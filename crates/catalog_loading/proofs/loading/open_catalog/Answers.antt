use Rattle.std.proofs.Common.{refl, subst}
use Rattle.owner_catalog.specs.Catalog.{catalog_in_file}
use Rattle.catalog_loading.specs.Loaded.{catalog_read, or_refused}
use Rattle.catalog_loading.specs.Given.{IsDecided}
use Rattle.catalog_loading.proofs.Reached.{at_last, begun, if_decided, one_more, passed, stopped}
use Rattle.catalog_loading.proofs.loading.open_catalog.Goals as goal

pub returns-in_err-bytes-clause-step : goal.returns-in_err-bytes-clause-step
returns-in_err-bytes-clause-step g c =
    passed _ _ _ _ _ _ c.from_residual.result (stopped _ _ _ _ _ _ _ _ _ (begun _ _ (catalog_read c.args.name.now)) refl c.in_err-bytes.ensures.step) c.from_residual.ensures.1

pub returns-clause-step : goal.returns-clause-step
returns-clause-step g c =
    at_last _ _ _ _ _ _ _ (λ catalog. catalog) c.catalog_of.result (one_more _ _ _ _ _ _ _ _ _ (begun _ _ (catalog_read c.args.name.now)) refl c.in_ok-bytes.ensures.step) c.in_ok-bytes.ensures.same
    (if_decided _ _ _ (λ catalog. catalog) c.catalog_of.result
    (subst (λ bytes. IsDecided (or_refused c.args.name.now (catalog_in_file bytes)) (λ catalog. catalog) c.catalog_of.result) c.deref.ensures.value c.catalog_of.ensures))
