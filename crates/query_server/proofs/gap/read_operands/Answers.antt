use Rattle.std.proofs.Common.{refl}
use Rattle.query_server.specs.Gap.{gap_steps}
use Rattle.catalog_loading.proofs.Fits.{opened_lawful}
use Rattle.catalog_loading.proofs.Reached.{at_last, begun, decided, one_more, passed, stopped, undecided}
use Rattle.query_server.proofs.gap.read_operands.Goals as goal

pub read_second-requires-clause-legal : goal.read_second-requires-clause-legal
read_second-requires-clause-legal g c = opened_lawful _ _ _ c.args.catalog.now _ c.in_ok-house.ensures.step

pub returns-in_err-house-clause-step : goal.returns-in_err-house-clause-step
returns-in_err-house-clause-step g c =
    let steps = gap_steps c.args.catalog.now c.args.owner.now c.args.second_catalog.now c.args.file.now in
    passed _ _ _ _ _ _ c.from_residual.result (stopped _ _ _ _ _ _ _ _ _ (begun _ _ steps) refl c.in_err-house.ensures.step) c.from_residual.ensures.1

pub returns-in_err-found-clause-step : goal.returns-in_err-found-clause-step
returns-in_err-found-clause-step g c =
    let steps = gap_steps c.args.catalog.now c.args.owner.now c.args.second_catalog.now c.args.file.now in
    let house = one_more _ _ _ _ _ _ _ _ _ (begun _ _ steps) refl c.in_ok-house.ensures.step in
    passed _ _ _ _ _ _ c.from_residual-in_err-found.result (stopped _ _ _ _ _ _ _ _ _ house c.in_ok-house.ensures.same (undecided _ _ _ _ c.in_err-found.ensures.owner)) c.from_residual-in_err-found.ensures.1

pub returns-clause-step : goal.returns-clause-step
returns-clause-step g c =
    let steps = gap_steps c.args.catalog.now c.args.owner.now c.args.second_catalog.now c.args.file.now in
    let same = c.in_ok-house.ensures.same in
    let house = one_more _ _ _ _ _ _ _ _ _ (begun _ _ steps) refl c.in_ok-house.ensures.step in
    let found = one_more _ _ _ _ _ _ _ _ _ house same (decided _ _ _ _ c.in_ok-found.ensures.owner.is) in
    at_last _ _ _ _ _ _ _ _ _ found same c.read_second.ensures.step
