use Rattle.exact_bernoulli.proofs.Exact.{uniform_reads, bernoulli_reads, bernoulli_exp_reads}
use Rattle.discrete_laplace.proofs.Exact.{geometric_reads, attempt_reads}
use Rattle.exact_bernoulli.proofs.Metered.{Takes-err, found_from_segment, none_from_segments}
use Rattle.discrete_laplace.proofs.Attempts.{attempt_none_first, attempt_none_second, attempt_stopped, attempt_none_third, attempt_none_fourth, attempt_whole}
use Rattle.discrete_laplace.proofs.attempt.Goals as goal

pub returns-in_err-u-clause-segment : goal.returns-in_err-u-clause-segment
returns-in_err-u-clause-segment g c =
    let none = c.in_err-u.ensures.segment in
    Takes-err (attempt_reads c.args.t c.args.s) c.from_residual.result _ _ c.from_residual.ensures.0 (attempt_none_first c.args.t c.args.s _ (none_from_segments (uniform_reads c.args.t) _ none.1)) none.0

pub returns-in_err-bernoulli_exp-clause-segment : goal.returns-in_err-bernoulli_exp-clause-segment
returns-in_err-bernoulli_exp-clause-segment g c =
    let none = c.in_err-bernoulli_exp.ensures.segment in
    let first = found_from_segment (uniform_reads c.args.t) _ _ _ c.in_ok-u.ensures.segment in
    Takes-err (attempt_reads c.args.t c.args.s) c.from_residual-in_err-bernoulli_exp.result _ _ c.from_residual-in_err-bernoulli_exp.ensures.0
    (attempt_none_second c.args.t c.args.s _ c.in_ok-u.u _ first (none_from_segments (bernoulli_exp_reads c.in_ok-u.u c.args.t) _ none.1)) none.0

pub returns-then-not-branch-clause-segment : goal.returns-then-not-branch-clause-segment
returns-then-not-branch-clause-segment g c =
    let first = found_from_segment (uniform_reads c.args.t) _ _ _ c.in_ok-u.ensures.segment in
    let second = found_from_segment (bernoulli_exp_reads c.in_ok-u.u c.args.t) _ _ _ c.in_ok-bernoulli_exp.ensures.segment in
    (attempt_reads c.args.t c.args.s).sound _ _ (attempt_stopped c.args.t c.args.s _ c.in_ok-u.u c.in_ok-bernoulli_exp.field-0 _ _ first second c.if-not-branch.true)

pub returns-in_err-v-clause-segment : goal.returns-in_err-v-clause-segment
returns-in_err-v-clause-segment g c =
    let none = c.in_err-v.ensures.segment in
    let first = found_from_segment (uniform_reads c.args.t) _ _ _ c.in_ok-u.ensures.segment in
    let second = found_from_segment (bernoulli_exp_reads c.in_ok-u.u c.args.t) _ _ _ c.in_ok-bernoulli_exp.ensures.segment in
    Takes-err (attempt_reads c.args.t c.args.s) c.from_residual-in_err-v.result _ _ c.from_residual-in_err-v.ensures.0
    (attempt_none_third c.args.t c.args.s _ c.in_ok-u.u c.in_ok-bernoulli_exp.field-0 _ _ first second c.if-not-branch.false (none_from_segments geometric_reads _ none.1)) none.0

pub returns-in_err-negative-clause-segment : goal.returns-in_err-negative-clause-segment
returns-in_err-negative-clause-segment g c =
    let none = c.in_err-negative.ensures.segment in
    let first = found_from_segment (uniform_reads c.args.t) _ _ _ c.in_ok-u.ensures.segment in
    let second = found_from_segment (bernoulli_exp_reads c.in_ok-u.u c.args.t) _ _ _ c.in_ok-bernoulli_exp.ensures.segment in
    let third = found_from_segment geometric_reads _ _ _ c.in_ok-v.ensures.segment in
    Takes-err (attempt_reads c.args.t c.args.s) c.from_residual-in_err-negative.result _ _ c.from_residual-in_err-negative.ensures.0
    (attempt_none_fourth c.args.t c.args.s _ c.in_ok-u.u c.in_ok-bernoulli_exp.field-0 c.in_ok-v.v _ _ _ first second c.if-not-branch.false third (none_from_segments (bernoulli_reads 1 2) _ none.1)) none.0

pub returns-clause-segment : goal.returns-clause-segment
returns-clause-segment g c =
    let first = found_from_segment (uniform_reads c.args.t) _ _ _ c.in_ok-u.ensures.segment in
    let second = found_from_segment (bernoulli_exp_reads c.in_ok-u.u c.args.t) _ _ _ c.in_ok-bernoulli_exp.ensures.segment in
    let third = found_from_segment geometric_reads _ _ _ c.in_ok-v.ensures.segment in
    let fourth = found_from_segment (bernoulli_reads 1 2) _ _ _ c.in_ok-negative.ensures.segment in
    (attempt_reads c.args.t c.args.s).sound _ _ (attempt_whole c.args.t c.args.s _ c.in_ok-u.u c.in_ok-bernoulli_exp.field-0 c.in_ok-v.v c.in_ok-negative.negative c.signed.result _ _ _ _ first second c.if-not-branch.false third fourth c.signed.ensures.value)
