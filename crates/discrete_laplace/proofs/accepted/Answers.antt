use Rattle.std.proofs.Common.{rules, sym, ap, w64, Some, ◌∙◌}
use Rattle.std.specs.Prelude.{is_none, FitsSigned}
use Rattle.std.proofs.lemmas.Int.{to_z-of_z}
use Rattle.discrete_laplace.proofs.Exact.{attempt_reads, sample_reads}
use Rattle.exact_bernoulli.proofs.Metered.{Took-more, Takes-err, found_from_segment, none_from_segments}
use Rattle.discrete_laplace.proofs.Samples.{attempts_more, attempts_end, attempts_none}
use Rattle.discrete_laplace.proofs.accepted.Goals as goal

pub returns-in_err-noise-clause-segment : goal.returns-in_err-noise-clause-segment
returns-in_err-noise-clause-segment g c =
    let none = c.in_err-noise.ensures.segment in
    let attempt = none_from_segments (attempt_reads c.args.t c.args.s) _ none.1 in
    Takes-err (sample_reads c.args.t c.args.s) c.from_residual.result _ _ c.from_residual.ensures.0 (attempts_none c.args.t c.args.s _ _ _ c.loop-noise.invariant.reads.1 attempt) none.0

pub returns-in-Some-clause-segment : goal.returns-in-Some-clause-segment
returns-in-Some-clause-segment g c =
    let attempt = found_from_segment (attempt_reads c.args.t c.args.s) _ _ _ c.in_ok-noise.ensures.segment in
    let fits : FitsSigned w64 c.in-Some.noise = search rules in
    let whole = sym (to_z-of_z w64 c.in-Some.noise fits) in
    (sample_reads c.args.t c.args.s).sound _ (_, _) (attempts_end c.args.t c.args.s _ c.in_ok-noise.field-0 _ _ _ _ c.loop-noise.invariant.reads.1 attempt (c.in-Some.is ∙ ap Some whole))

pub loop-noise-preserved : goal.loop-noise-preserved
loop-noise-preserved g c =
    let attempt = found_from_segment (attempt_reads c.args.t c.args.s) _ _ _ c.in_ok-noise.ensures.segment in
    record {
      same_words = c.attempt.ensures.same_words ∙ c.loop-noise.invariant.same_words;
      took = Took-more _ _ _ _ _ _ c.loop-noise.invariant.took c.attempt.ensures.took;
      reads = (_, attempts_more c.args.t c.args.s _ c.in_ok-noise.field-0 _ _ _ c.loop-noise.invariant.reads.1 attempt (ap is_none c.in_default.is));
    }
