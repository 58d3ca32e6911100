use Rattle.std.proofs.Common.{refl}
use Rattle.owner_catalog.specs.Entries.{owner_entry_at}
use Rattle.query_server.specs.Gap.{second_steps}
use Rattle.catalog_loading.proofs.Fits.{same_signature}
use Rattle.catalog_loading.proofs.Reached.{at_last, begun, decided, one_more, passed, stopped, undecided}
use Rattle.query_server.proofs.gap.read_second.Goals as goal

pub load_operands-requires-clause-fit : goal.load_operands-requires-clause-fit
load_operands-requires-clause-fit g c =
    let first = owner_entry_at c.args.first_house.now c.args.first_owner in
    let second = owner_entry_at c.in_ok-house.house c.in_ok-found.found in
    same_signature first c.in_ok-house.house c.args.owner.now second c.in_ok-found.ensures.owner.1

pub returns-in_err-house-clause-step : goal.returns-in_err-house-clause-step
returns-in_err-house-clause-step g c =
    let steps = second_steps c.args.first_house.now (owner_entry_at c.args.first_house.now c.args.first_owner) c.args.owner.now c.args.second_catalog.now c.args.file.now in
    passed _ _ _ _ _ _ c.from_residual.result (stopped _ _ _ _ _ _ _ _ _ (begun _ _ steps) refl c.in_err-house.ensures.step) c.from_residual.ensures.1

pub returns-in_err-found-clause-step : goal.returns-in_err-found-clause-step
returns-in_err-found-clause-step g c =
    let steps = second_steps c.args.first_house.now (owner_entry_at c.args.first_house.now c.args.first_owner) c.args.owner.now c.args.second_catalog.now c.args.file.now in
    let house = one_more _ _ _ _ _ _ _ _ _ (begun _ _ steps) refl c.in_ok-house.ensures.step in
    passed _ _ _ _ _ _ c.from_residual-in_err-found.result (stopped _ _ _ _ _ _ _ _ _ house c.in_ok-house.ensures.same (undecided _ _ _ _ c.in_err-found.ensures.owner)) c.from_residual-in_err-found.ensures.1

pub returns-clause-step : goal.returns-clause-step
returns-clause-step g c =
    let steps = second_steps c.args.first_house.now (owner_entry_at c.args.first_house.now c.args.first_owner) c.args.owner.now c.args.second_catalog.now c.args.file.now in
    let same = c.in_ok-house.ensures.same in
    let house = one_more _ _ _ _ _ _ _ _ _ (begun _ _ steps) refl c.in_ok-house.ensures.step in
    let fit = one_more _ _ _ _ _ _ _ _ _ house same (decided _ _ _ _ c.in_ok-found.ensures.owner.1) in
    at_last _ _ _ _ _ _ _ _ _ fit same (c.load_operands.ensures.step c.args.owner.now c.requires.owner c.in_ok-found.ensures.owner.0)
