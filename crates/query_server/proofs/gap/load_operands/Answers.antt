use Rattle.std.proofs.Common.{◌∙◌, refl, sym}
use Rattle.query_server.specs.Gap.{loading_steps}
use Rattle.catalog_loading.proofs.Reached.{all_done, begun, one_more, passed, stopped}
use Rattle.query_server.proofs.gap.load_operands.Goals as goal

pub returns-in_err-first-clause-step : goal.returns-in_err-first-clause-step
returns-in_err-first-clause-step g c = λ name one other.
    let steps = loading_steps c.args.first_house.now c.args.second_house.now name c.args.file.now in
    passed _ _ _ _ _ _ c.from_residual.result (stopped _ _ _ _ _ _ _ _ _ (begun _ _ steps) refl (c.in_err-first.ensures.step name one)) c.from_residual.ensures.1

pub returns-in_err-second-clause-step : goal.returns-in_err-second-clause-step
returns-in_err-second-clause-step g c = λ name one other.
    let steps = loading_steps c.args.first_house.now c.args.second_house.now name c.args.file.now in
    let holding = one_more _ _ _ _ _ _ _ _ _ (begun _ _ steps) refl (c.in_ok-first.ensures.step name one) in
    passed _ _ _ _ _ _ c.from_residual-in_err-second.result (stopped _ _ _ _ _ _ _ _ _ holding c.in_ok-first.ensures.same (c.in_err-second.ensures.step name other)) c.from_residual-in_err-second.ensures.1

pub returns-in_err-program-clause-step : goal.returns-in_err-program-clause-step
returns-in_err-program-clause-step g c = λ name one other.
    let steps = loading_steps c.args.first_house.now c.args.second_house.now name c.args.file.now in
    let same = c.in_ok-first.ensures.same in
    let holding = one_more _ _ _ _ _ _ _ _ _ (begun _ _ steps) refl (c.in_ok-first.ensures.step name one) in
    let holdings = one_more _ _ _ _ _ _ _ _ _ holding same (c.in_ok-second.ensures.step name other) in
    passed _ _ _ _ _ _ c.from_residual-in_err-program.result (stopped _ _ _ _ _ _ _ _ _ holdings (c.in_ok-second.ensures.same ∙ same) c.in_err-program.ensures.step) c.from_residual-in_err-program.ensures.1

pub returns-clause-step : goal.returns-clause-step
returns-clause-step g c = λ name one other.
    let steps = loading_steps c.args.first_house.now c.args.second_house.now name c.args.file.now in
    let same = c.in_ok-first.ensures.same in
    let holding = one_more _ _ _ _ _ _ _ _ _ (begun _ _ steps) refl (c.in_ok-first.ensures.step name one) in
    let holdings = one_more _ _ _ _ _ _ _ _ _ holding same (c.in_ok-second.ensures.step name other) in
    all_done _ _ _ steps _ (one_more _ _ _ _ _ _ _ _ _ holdings (c.in_ok-second.ensures.same ∙ same) c.in_ok-program.ensures.step)

pub returns-clause-tables : goal.returns-clause-tables
returns-clause-tables g c = c.in_ok-second.ensures.tables ∙ c.requires.fit ∙ sym c.in_ok-first.ensures.tables
