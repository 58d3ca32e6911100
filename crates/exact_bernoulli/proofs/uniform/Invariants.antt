use Rattle.std.proofs.Common.{◌≡◌}
use Rattle.exact_bernoulli.specs.Meter.{allowed, Took}
use Rattle.exact_bernoulli.specs.Readers.{read_uniform}
use Rattle.exact_bernoulli.proofs.uniform.Given as goal

-- what is read from here is what is read from the start
abbrev pub invariant-loop-draw : goal.invariant-loop-draw
invariant-loop-draw g l = record {
  same_words : l.meter.words.ghost_name ≡ l.fn.meter.words.ghost_name;
  took : Took g.W.Words.draws g.W.Words.place l.fn.meter.left l.fn.meter.words.now l.meter.left l.meter.words.now;
  reads : read_uniform l.m (allowed g.W.Words.draws l.fn.meter.left l.fn.meter.words.now) ≡ read_uniform l.m (allowed g.W.Words.draws l.meter.left l.meter.words.now);
}

abbrev pub decreases-loop-draw : goal.decreases-loop-draw
decreases-loop-draw g l = l.meter.left
