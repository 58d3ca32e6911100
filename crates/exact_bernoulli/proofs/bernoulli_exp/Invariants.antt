use Rattle.std.proofs.Common.{◌≡◌, ◌<◌, ◌≤◌, ◌+◌, ◌*◌}
use Rattle.exact_bernoulli.specs.Meter.{allowed, Took}
use Rattle.exact_bernoulli.specs.Readers.{read_run, read_bernoulli}
use Rattle.exact_bernoulli.proofs.bernoulli_exp.Given as goal

-- what is read from this trial on is what is read from the first
abbrev pub invariant-loop-trials : goal.invariant-loop-trials
invariant-loop-trials g l = record {
  same_words : l.meter.words.ghost_name ≡ l.fn.meter.words.ghost_name;
  took : Took g.W.Words.draws g.W.Words.place l.fn.meter.left l.fn.meter.words.now l.meter.left l.meter.words.now;
  counted : l.trials + l.meter.left ≤ 4097;
  some : 0 < l.trials;
  reads : read_run (λ k. read_bernoulli l.u (l.t * k)) (λ one. one) 1 (allowed g.W.Words.draws l.fn.meter.left l.fn.meter.words.now)
      ≡ read_run (λ k. read_bernoulli l.u (l.t * k)) (λ one. one) l.trials (allowed g.W.Words.draws l.meter.left l.meter.words.now);
}

abbrev pub decreases-loop-trials : goal.decreases-loop-trials
decreases-loop-trials g l = l.meter.left
