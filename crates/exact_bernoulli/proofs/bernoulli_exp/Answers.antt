use Rattle.std.proofs.Common.{arith, ◌*◌, ◌∙◌}
use Rattle.exact_bernoulli.proofs.Exact.{bernoulli_reads, bernoulli_exp_reads}
use Rattle.exact_bernoulli.proofs.Metered.{Took-more, Takes-err, found_from_segment, none_from_segments}
use Rattle.exact_bernoulli.proofs.Trials.{trials_more, trials_end, trials_none}
use Rattle.exact_bernoulli.proofs.bernoulli_exp.Goals as goal

pub returns-in_err-bernoulli-clause-segment : goal.returns-in_err-bernoulli-clause-segment
returns-in_err-bernoulli-clause-segment g c =
    let none = c.in_err-bernoulli.ensures.segment in
    let trial = none_from_segments (bernoulli_reads c.args.u (c.args.t * c.loop-trials.trials)) _ none.1 in
    Takes-err (bernoulli_exp_reads c.args.u c.args.t) c.from_residual.result _ _ c.from_residual.ensures.0 (trials_none c.args.u c.args.t c.loop-trials.trials _ _ c.loop-trials.invariant.reads trial) none.0

pub loop-trials-preserved : goal.loop-trials-preserved
loop-trials-preserved g c =
    let trial = found_from_segment (bernoulli_reads c.args.u (c.args.t * c.loop-trials.trials)) _ _ _ c.in_ok-bernoulli.ensures.segment in
    record {
      same_words = c.bernoulli.ensures.same_words ∙ c.loop-trials.invariant.same_words;
      took = Took-more _ _ _ _ _ _ c.loop-trials.invariant.took c.bernoulli.ensures.took;
      counted = omega (arith, c.in_ok-bernoulli.ensures.fewer);
      some = omega arith;
      reads = trials_more c.args.u c.args.t c.loop-trials.trials c.in_ok-bernoulli.field-0 _ _ _ c.loop-trials.invariant.reads trial c.if-branch.true;
    }

pub returns-clause-segment : goal.returns-clause-segment
returns-clause-segment g c =
    let trial = found_from_segment (bernoulli_reads c.args.u (c.args.t * c.loop-trials.trials)) _ _ _ c.in_ok-bernoulli.ensures.segment in
    (bernoulli_exp_reads c.args.u c.args.t).sound _ _ (trials_end c.args.u c.args.t c.loop-trials.trials c.in_ok-bernoulli.field-0 _ _ _ c.loop-trials.invariant.reads trial c.if-branch.false)
