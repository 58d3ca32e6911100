use Rattle.std.proofs.Common.{refl, subst, sym}
use Rattle.owner_house.specs.Names.{AreNames}
use Rattle.catalog_loading.specs.declared.stops.Stop.TheVariants.{NoMemory}
use Rattle.catalog_loading.proofs.Reached.{all_done, begun, cut, decided, one_more, passed, stopped, undecided}
use Rattle.derivation_commands.specs.Task.{subject_read}
use Rattle.derivation_commands.proofs.Done.{owner_names, with_tables}
use Rattle.derivation_commands.proofs.reading.read_subject.Goals as goal

pub returns-in_err-house-clause-step : goal.returns-in_err-house-clause-step
returns-in_err-house-clause-step g c =
    let steps = subject_read c.args.catalog.now c.args.owner.now c.args.file.now in
    passed _ _ _ _ _ _ c.from_residual.result (stopped _ _ _ _ _ _ _ _ _ (begun _ _ steps) refl c.in_err-house.ensures.step) c.from_residual.ensures.1

pub returns-in_err-number-clause-step : goal.returns-in_err-number-clause-step
returns-in_err-number-clause-step g c =
    let steps = subject_read c.args.catalog.now c.args.owner.now c.args.file.now in
    let house = one_more _ _ _ _ _ _ _ _ _ (begun _ _ steps) refl c.in_ok-house.ensures.step in
    passed _ _ _ _ _ _ c.from_residual-in_err-number.result (stopped _ _ _ _ _ _ _ _ _ house c.in_ok-house.ensures.same (undecided _ _ _ _ c.in_err-number.ensures.owner)) c.from_residual-in_err-number.ensures.1

pub returns-in_err-tables-clause-step : goal.returns-in_err-tables-clause-step
returns-in_err-tables-clause-step g c =
    let steps = subject_read c.args.catalog.now c.args.owner.now c.args.file.now in
    let same = c.in_ok-house.ensures.same in
    let house = one_more _ _ _ _ _ _ _ _ _ (begun _ _ steps) refl c.in_ok-house.ensures.step in
    let number = one_more _ _ _ _ _ _ _ _ _ house same (decided _ _ _ _ c.in_ok-number.ensures.owner.is) in
    passed _ _ _ _ _ NoMemory c.from_residual-in_err-tables.result (cut _ _ _ _ _ number) c.from_residual-in_err-tables.ensures.1

pub returns-in_err-program-clause-step : goal.returns-in_err-program-clause-step
returns-in_err-program-clause-step g c =
    let steps = subject_read c.args.catalog.now c.args.owner.now c.args.file.now in
    let same = c.in_ok-house.ensures.same in
    let house = one_more _ _ _ _ _ _ _ _ _ (begun _ _ steps) refl c.in_ok-house.ensures.step in
    let number = one_more _ _ _ _ _ _ _ _ _ house same (decided _ _ _ _ c.in_ok-number.ensures.owner.is) in
    passed _ _ _ _ _ _ c.from_residual-in_err-program.result (stopped _ _ _ _ _ _ _ _ _ number same c.in_err-program.ensures.step) c.from_residual-in_err-program.ensures.1

pub returns-clause-step : goal.returns-clause-step
returns-clause-step g c =
    let steps = subject_read c.args.catalog.now c.args.owner.now c.args.file.now in
    let same = c.in_ok-house.ensures.same in
    let house = one_more _ _ _ _ _ _ _ _ _ (begun _ _ steps) refl c.in_ok-house.ensures.step in
    let number = one_more _ _ _ _ _ _ _ _ _ house same (decided _ _ _ _ c.in_ok-number.ensures.owner.is) in
    with_tables _ _ _ steps _ _ _ (all_done _ _ _ steps _ (one_more _ _ _ _ _ _ _ _ _ number same c.in_ok-program.ensures.step)) c.in_ok-tables.ensures

pub returns-clause-names : goal.returns-clause-names
returns-clause-names g c =
    subst AreNames (sym c.in_ok-tables.ensures) (owner_names _ _ _ c.args.catalog.now c.args.owner.now _ _ c.in_ok-house.ensures.step c.in_ok-number.ensures.owner)
