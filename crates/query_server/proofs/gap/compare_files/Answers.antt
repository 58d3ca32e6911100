use Rattle.std.proofs.Common.{List, ℕ, refl, subst}
use mathlib.Core.Logic.{inl, inr}
use Rattle.query_server.specs.Work.{to_compare}
use Rattle.query_server.specs.Gap.{gap_steps}
use Rattle.query_server.specs.Ends.{IsGapOn}
use Rattle.catalog_loading.specs.declared.stops.Stop.TheVariants.{NoMemory}
use Rattle.query_server.proofs.Ends.{end_passed, failed_end, passed_end}
use Rattle.query_server.proofs.gap.compare_files.Goals as goal

pub returns-in_err-found-clause-end : goal.returns-in_err-found-clause-end
returns-in_err-found-clause-end g c = λ left shelf. passed_end _ left _ _ shelf (gap_steps c.args.catalog.now c.args.owner.now c.args.second_catalog.now c.args.file.now) _ c.from_residual.result c.in_err-found.ensures.step c.from_residual.ensures.1

pub returns-clause-end : goal.returns-clause-end
returns-clause-end g c = λ left shelf.
    let found = c.in_ok-found.found in
    failed_end _ left _ _ shelf shelf _ (to_compare found.first.tables found.first.rows found.second.rows found.program.items) _ c.in_ok-found.ensures.step
    (λ script. inl (subst (λ (program : List ℕ). IsGapOn found.first.tables found.first.rows found.second.rows program c.in_ok-end.end) c.deref.ensures.value c.in_ok-end.ensures))

pub returns-in_err-end-clause-end : goal.returns-in_err-end-clause-end
returns-in_err-end-clause-end g c = λ left shelf.
    let found = c.in_ok-found.found in
    failed_end _ left _ _ shelf shelf _ (to_compare found.first.tables found.first.rows found.second.rows found.program.items) _ c.in_ok-found.ensures.step
    (λ script. inr (inr (inl (end_passed NoMemory c.from_residual-in_err-end.result c.from_residual-in_err-end.ensures.1)), λ n. refl))
