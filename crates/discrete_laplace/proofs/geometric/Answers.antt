use Rattle.std.proofs.Common.{arith, ◌∙◌}
use Rattle.exact_bernoulli.proofs.Exact.{bernoulli_exp_reads}
use Rattle.discrete_laplace.proofs.Exact.{geometric_reads}
use Rattle.exact_bernoulli.proofs.Metered.{Took-more, Takes-err, found_from_segment, none_from_segments}
use Rattle.discrete_laplace.proofs.Ones.{ones_more, ones_end, ones_none}
use Rattle.discrete_laplace.proofs.geometric.Goals as goal

pub returns-in_err-bernoulli_exp-clause-segment : goal.returns-in_err-bernoulli_exp-clause-segment
returns-in_err-bernoulli_exp-clause-segment g c =
    let none = c.in_err-bernoulli_exp.ensures.segment in
    let trial = none_from_segments (bernoulli_exp_reads 1 1) _ none.1 in
    Takes-err geometric_reads c.from_residual.result _ _ c.from_residual.ensures.0 (ones_none c.loop-ones.ones _ _ c.loop-ones.invariant.reads trial) none.0

pub loop-ones-preserved : goal.loop-ones-preserved
loop-ones-preserved g c =
    let trial = found_from_segment (bernoulli_exp_reads 1 1) _ _ _ c.in_ok-bernoulli_exp.ensures.segment in
    record {
      same_words = c.bernoulli_exp.ensures.same_words ∙ c.loop-ones.invariant.same_words;
      took = Took-more _ _ _ _ _ _ c.loop-ones.invariant.took c.bernoulli_exp.ensures.took;
      counted = omega (arith, c.in_ok-bernoulli_exp.ensures.fewer);
      reads = ones_more c.loop-ones.ones c.in_ok-bernoulli_exp.field-0 _ _ _ c.loop-ones.invariant.reads trial c.if-branch.true;
    }

pub returns-clause-segment : goal.returns-clause-segment
returns-clause-segment g c =
    let trial = found_from_segment (bernoulli_exp_reads 1 1) _ _ _ c.in_ok-bernoulli_exp.ensures.segment in
    geometric_reads.sound _ _ (ones_end c.loop-ones.ones c.in_ok-bernoulli_exp.field-0 _ _ _ c.loop-ones.invariant.reads trial c.if-branch.false)
