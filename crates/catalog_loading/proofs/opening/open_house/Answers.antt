use Rattle.std.proofs.Common.{sym, subst}
use Rattle.catalog_loading.specs.Loaded.{KeyedHouse, house_read}
use Rattle.catalog_loading.specs.declared.stops.Stop.{Stop}
use Rattle.catalog_loading.proofs.Reached.{IsDone, IsStopped, cut_behind, passed}
use Rattle.catalog_loading.proofs.opening.open_house.Goals as goal

pub returns-in_err-opened-clause-step : goal.returns-in_err-opened-clause-step
returns-in_err-opened-clause-step g c = passed _ _ _ _ _ _ c.from_residual.result c.in_err-opened.ensures.step c.from_residual.ensures.1

pub returns-in_err-house-clause-step : goal.returns-in_err-house-clause-step
returns-in_err-house-clause-step g c =
    passed _ _ _ _ _ _ c.from_residual-in_err-house.result
    (subst (λ (stop : Stop). IsStopped (g.F.Files.held c.args.files.now) (g.F.Files.names c.args.files.now) (g.F.Files.names c.open_tables.new.files) (house_read c.args.catalog.now c.args.key.now) stop)
    (sym c.in_err-house.ensures.memory) (cut_behind _ _ _ _ _ c.in_ok-opened.ensures.step)) c.from_residual-in_err-house.ensures.1

pub returns-clause-step : goal.returns-clause-step
returns-clause-step g c =
    subst (λ (house : KeyedHouse). IsDone (g.F.Files.held c.args.files.now) (g.F.Files.names c.args.files.now) (g.F.Files.names c.open_tables.new.files) (house_read c.args.catalog.now c.args.key.now) house)
    (sym c.in_ok-house.ensures.same) c.in_ok-opened.ensures.step
