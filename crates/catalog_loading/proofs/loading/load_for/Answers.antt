use Rattle.std.proofs.Common.{◌≡◌, ◌∙◌, ◌<◌, ℕ, List, length, slice_get, Some, refl, sym, ap, subst, arith}
use Rattle.std.specs.Prelude.{slice_index_or}
use Rattle.std.proofs.lemmas.Option.{slice_get_read}
use Rattle.owner_catalog.specs.Entries.{owner_entry_at}
use Rattle.owner_house.specs.Names.{AreNames}
use Rattle.part_views.specs.Holding.{Holding}
use Rattle.catalog_loading.specs.Loaded.{owner_loaded}
use Rattle.catalog_loading.specs.Given.{holdings_with}
use Rattle.catalog_loading.specs.declared.stops.Stop.TheVariants.{NoMemory}
use Rattle.catalog_loading.proofs.Holdings.{held_slice, one_holds, rows_held}
use Rattle.catalog_loading.proofs.Loaded.{names_of}
use Rattle.catalog_loading.proofs.Reached.{at_done, begun, cut, decided, one_more, passed, stopped}
use Rattle.catalog_loading.proofs.loading.load_for.Goals as goal

pub returns-in_err-loaded-clause-step : goal.returns-in_err-loaded-clause-step
returns-in_err-loaded-clause-step g c = λ name owner.
    passed _ _ _ _ _ _ c.from_residual.result (stopped _ _ _ _ _ _ _ _ _ (begun _ _ (owner_loaded c.args.catalog.now name)) refl c.in_err-loaded.ensures.step) c.from_residual.ensures.1

-- the owner's rows
its_rows : {T : Type 0} (all : List T) (o : ℕ) (rows : T) → o < length all → rows ≡ slice_index_or all o rows → slice_get all o ≡ Some rows
its_rows all o rows within is = slice_get_read all (length all) o rows refl within is

pub new-requires-clause-rows : goal.new-requires-clause-rows
new-requires-clause-rows g c =
    let read = c.in_ok-loaded.ensures in
    let tables = c.in_ok-loaded.loaded.tables.items in
    let at = its_rows tables c.args.owner c.swap_remove-rows.result (omega (arith, c.requires, read.each_has)) c.swap_remove-rows.ensures.value in
    rows_held c.args.catalog.now tables c.args.owner c.swap_remove-rows.result (record { each_has = read.each_has; register = read.loading.register }) c.requires at

pub returns-in_err-dataset-clause-step : goal.returns-in_err-dataset-clause-step
returns-in_err-dataset-clause-step g c = λ name owner.
    passed _ _ _ _ _ NoMemory c.from_residual-in_err-dataset.result
    (cut _ _ _ _ _ (one_more _ _ _ _ _ _ _ _ _ (begun _ _ (owner_loaded c.args.catalog.now name)) refl c.in_ok-loaded.ensures.step)) c.from_residual-in_err-dataset.ensures.1

pub returns-clause-step : goal.returns-clause-step
returns-clause-step g c = λ name owner.
    let read = c.in_ok-loaded.ensures in
    let tables = c.in_ok-loaded.loaded.tables.items in
    let owners = c.args.catalog.now.owners in
    let rows = its_rows tables c.args.owner c.swap_remove-rows.result (omega (arith, c.requires, read.each_has)) c.swap_remove-rows.ensures.value in
    let at = held_slice owners tables c.args.owner c.swap_remove-rows.result _ c.requires rows ∙ ap Some (sym c.in_ok-dataset.ensures) in
    at_done _ _ _ _ _ _ _ _ (one_more _ _ _ _ _ _ _ _ _ (begun _ _ (owner_loaded c.args.catalog.now name)) refl read.step) read.same
    (decided _ _ _ _ (one_holds c.args.catalog.now (holdings_with owners tables) name c.args.owner c.in_ok-dataset.dataset owner at))

pub returns-clause-names : goal.returns-clause-names
returns-clause-names g c =
    let signed = ap (λ (holding : Holding). holding.tables) c.in_ok-dataset.ensures in
    subst AreNames (sym signed) (names_of (owner_entry_at c.args.catalog.now c.args.owner).tables (c.in_ok-loaded.ensures.loading.register.catalog.owners c.args.owner _ c.requires).tables)
