use Rattle.std.proofs.Common.{arith, ◌<◌, ◌∙◌}
use Rattle.exact_bernoulli.specs.ExactBernoulli.{uniform_limit}
use Rattle.exact_bernoulli.proofs.Exact.{uniform_reads}
use Rattle.exact_bernoulli.proofs.Metered.{Took-more, Takes-err, kept_below, above_kept, uniform_stands, uniform_goes_on, uniform_none}
use Rattle.exact_bernoulli.proofs.uniform.Goals as goal

pub returns-in_err-draw-clause-segment : goal.returns-in_err-draw-clause-segment
returns-in_err-draw-clause-segment g c =
    Takes-err (uniform_reads c.args.m) c.from_residual.result _ _ c.from_residual.ensures.0 (c.loop-draw.invariant.reads ∙ uniform_none c.args.m _ c.in_err-draw.ensures.front) c.in_err-draw.ensures.over

pub returns-then-draw-last_kept-clause-segment : goal.returns-then-draw-last_kept-clause-segment
returns-then-draw-last_kept-clause-segment g c =
    let below : c.in_ok-draw.draw < uniform_limit c.args.m = kept_below c.args.m c.in_ok-draw.draw (omega arith) (omega arith) (omega arith) in
    (uniform_reads c.args.m).sound _ _ (c.loop-draw.invariant.reads ∙ uniform_stands c.args.m c.in_ok-draw.draw _ _ c.in_ok-draw.ensures.front below)

pub loop-draw-preserved : goal.loop-draw-preserved
loop-draw-preserved g c = record {
  same_words = c.draw.ensures.same_words ∙ c.loop-draw.invariant.same_words;
  took = Took-more _ _ _ _ _ _ c.loop-draw.invariant.took c.draw.ensures.took;
  reads = c.loop-draw.invariant.reads ∙ uniform_goes_on c.args.m c.in_ok-draw.draw _ _ c.in_ok-draw.ensures.front (above_kept c.args.m c.in_ok-draw.draw (omega arith));
}
