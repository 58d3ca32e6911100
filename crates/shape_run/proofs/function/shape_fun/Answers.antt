use Rattle.std.proofs.Common.{◌∙◌}
use Rattle.std.proofs.lemmas.Result.{err_from_is_err_and}
use Rattle.fz_ast.specs.TermNodes.{term_at}
use Rattle.shape_law.proofs.Functions.{function_limits, function_runs}
use Rattle.shape_law.specs.Shapes.{Nothing}
use Rattle.shape_law.specs.Walk.{applied_shape}
use Rattle.shape_run.proofs.Functions.{body_stops, body_then, term_stops, whole_function}
use Rattle.shape_run.proofs.Steps.{planned_told, to, too_many_told}
use Rattle.shape_run.specs.Cells.{no_names}
use Rattle.shape_run.specs.Tells.{StopsAt, planned}
use Rattle.shape_run.proofs.function.shape_fun.Goals as goal

pub visit-requires-clause-scope : goal.visit-requires-clause-scope
visit-requires-clause-scope c = (Nothing, no_names)

pub returns-in_err-function-clause-stopped : goal.returns-in_err-function-clause-stopped
returns-in_err-function-clause-stopped c =
    let u = term_at c.parts-root.result.0.now.terms c.parts-root.result.1 in
    let w = whole_function c.limit-depths.result c.args.term.now u c.limit-depths.ensures.is c.parts-root.ensures.is in
    let stops : StopsAt c.in_err-function.field-0.0 (applied_shape c.args.term.now) =
    to (StopsAt c.in_err-function.field-0.0) _ _ w (term_stops c.limit-depths.result u c.in_err-function.field-0.0 (c.in_err-function.ensures.is Nothing no_names)) in
    let e = err_from_is_err_and c.from_residual.result c.from_residual.ensures.1 in rw (e.1, e.2) stops

pub apply_to_row-requires-clause-function : goal.apply_to_row-requires-clause-function
apply_to_row-requires-clause-function c = let a = c.in_ok-function.ensures.is Nothing no_names in (a.0, a.1)

pub returns-in_err-apply_to_row-clause-stopped : goal.returns-in_err-apply_to_row-clause-stopped
returns-in_err-apply_to_row-clause-stopped c =
    let u = term_at c.parts-root.result.0.now.terms c.parts-root.result.1 in
    let w = whole_function c.limit-depths.result c.args.term.now u c.limit-depths.ensures.is c.parts-root.ensures.is in
    let a = c.in_ok-function.ensures.is Nothing no_names in
    let stops : StopsAt c.in_err-apply_to_row.field-0.0 (applied_shape c.args.term.now) =
    to (StopsAt c.in_err-apply_to_row.field-0.0) _ _ w (body_stops c.limit-depths.result u a.0 _ c.in_err-apply_to_row.field-0.0 a.2 (c.in_err-apply_to_row.ensures a.0 a.1)) in
    let e = err_from_is_err_and c.from_residual-in_err-apply_to_row.result c.from_residual-in_err-apply_to_row.ensures.1 in rw (e.1, e.2) stops

pub returns-then-count-clause-stopped : goal.returns-then-count-clause-stopped
returns-then-count-clause-stopped c =
    let u = term_at c.parts-root.result.0.now.terms c.parts-root.result.1 in
    let w = whole_function c.limit-depths.result c.args.term.now u c.limit-depths.ensures.is c.parts-root.ensures.is in
    let a = c.in_ok-function.ensures.is Nothing no_names in
    let b = c.in_ok-apply_to_row.ensures a.0 a.1 in
    w ∙ body_then c.limit-depths.result u a.0 _ a.2 ∙ too_many_told _ b.0 c.apply_to_row.new.count b.2 c.if-count.true

pub returns-clause-planned : goal.returns-clause-planned
returns-clause-planned c =
    let u = term_at c.parts-root.result.0.now.terms c.parts-root.result.1 in
    let w = whole_function c.limit-depths.result c.args.term.now u c.limit-depths.ensures.is c.parts-root.ensures.is in
    let a = c.in_ok-function.ensures.is Nothing no_names in
    let b = c.in_ok-apply_to_row.ensures a.0 a.1 in
    (b.0, w ∙ body_then c.limit-depths.result u a.0 _ a.2 ∙ planned_told _ b.0 c.apply_to_row.new.count b.2 c.if-count.false)

pub returns-clause-limits : goal.returns-clause-limits
returns-clause-limits c =
    let p = returns-clause-planned c in function_limits c.args.term.now p.0 (planned c.apply_to_row.new.count.plan) p.1

pub returns-clause-runs : goal.returns-clause-runs
returns-clause-runs c = λ row g l f. let p = returns-clause-planned c in function_runs row c.args.term.now g l f p.0 (planned c.apply_to_row.new.count.plan) p.1
