use Rattle.std.proofs.Common.{◌≡◌, ◌≤◌, ◌+◌}
use Rattle.exact_bernoulli.specs.Meter.{allowed, Took}
use Rattle.discrete_laplace.proofs.Ones.{ones_from}
use Rattle.discrete_laplace.proofs.geometric.Given as goal

-- what is read from this number on is what is read from the first
abbrev pub invariant-loop-ones : goal.invariant-loop-ones
invariant-loop-ones g l = record {
  same_words : l.meter.words.ghost_name ≡ l.fn.meter.words.ghost_name;
  took : Took g.W.Words.draws g.W.Words.place l.fn.meter.left l.fn.meter.words.now l.meter.left l.meter.words.now;
  counted : l.ones + l.meter.left ≤ 4096;
  reads : ones_from 0 (allowed g.W.Words.draws l.fn.meter.left l.fn.meter.words.now) ≡ ones_from l.ones (allowed g.W.Words.draws l.meter.left l.meter.words.now);
}

abbrev pub decreases-loop-ones : goal.decreases-loop-ones
decreases-loop-ones g l = l.meter.left
