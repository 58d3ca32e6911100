use Rattle.std.proofs.Common.{◌≡◌, ℕ}
use Rattle.exact_bernoulli.specs.Meter.{allowed, Took}
use Rattle.discrete_laplace.proofs.Samples.{attempts_from}
use Rattle.discrete_laplace.proofs.accepted.Given as goal

-- what is read from this attempt on is what is read from the first
abbrev pub invariant-loop-noise : goal.invariant-loop-noise
invariant-loop-noise g l = record {
  same_words : l.meter.words.ghost_name ≡ l.fn.meter.words.ghost_name;
  took : Took g.W.Words.draws g.W.Words.place l.fn.meter.left l.fn.meter.words.now l.meter.left l.meter.words.now;
  reads : (k : ℕ) × (attempts_from l.t l.s 0 (allowed g.W.Words.draws l.fn.meter.left l.fn.meter.words.now) ≡ attempts_from l.t l.s k (allowed g.W.Words.draws l.meter.left l.meter.words.now));
}

abbrev pub decreases-loop-noise : goal.decreases-loop-noise
decreases-loop-noise g l = l.meter.left
