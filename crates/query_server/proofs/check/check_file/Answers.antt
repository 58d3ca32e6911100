use Rattle.std.proofs.Common.{List, ℕ, refl, subst}
use mathlib.Core.Logic.{inl, inr}
use Rattle.query_server.specs.Check.{check_steps}
use Rattle.query_server.specs.Work.{to_check}
use Rattle.query_server.specs.Ends.{IsVerdictOn}
use Rattle.catalog_loading.specs.declared.stops.Stop.TheVariants.{NoMemory}
use Rattle.query_server.proofs.Ends.{end_passed, failed_end, passed_end}
use Rattle.query_server.proofs.check.check_file.Goals as goal

pub returns-in_err-candidate-clause-end : goal.returns-in_err-candidate-clause-end
returns-in_err-candidate-clause-end g c = λ left shelf. passed_end _ left _ _ shelf (check_steps c.args.catalog.now c.args.owner.now c.args.file.now) _ c.from_residual.result c.in_err-candidate.ensures.step c.from_residual.ensures.1

pub returns-clause-end : goal.returns-clause-end
returns-clause-end g c = λ left shelf.
    let found = c.in_ok-candidate.candidate in
    failed_end _ left _ _ shelf shelf _ (to_check found.dataset.tables found.program.items) _ c.in_ok-candidate.ensures.step
    (λ script. inl (subst (λ (program : List ℕ). IsVerdictOn found.dataset.tables program c.in_ok-end.end) c.deref.ensures.value c.in_ok-end.ensures))

pub returns-in_err-end-clause-end : goal.returns-in_err-end-clause-end
returns-in_err-end-clause-end g c = λ left shelf.
    let found = c.in_ok-candidate.candidate in
    failed_end _ left _ _ shelf shelf _ (to_check found.dataset.tables found.program.items) _ c.in_ok-candidate.ensures.step
    (λ script. inr (inr (inl (end_passed NoMemory c.from_residual-in_err-end.result c.from_residual-in_err-end.ensures.1)), λ n. refl))
