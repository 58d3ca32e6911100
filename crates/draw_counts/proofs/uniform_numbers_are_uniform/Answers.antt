use Rattle.draw_counts.proofs.Uniform.{uniform_count, uniform_equal, bernoulli_fraction}
use Rattle.draw_counts.proofs.uniform_numbers_are_uniform.Goals as goal

-- src/lib.rt:10:1
pub returns-clause-counted : goal.returns-clause-counted
returns-clause-counted c = uniform_count

-- src/lib.rt:10:1
pub returns-clause-equal : goal.returns-clause-equal
returns-clause-equal c = uniform_equal

-- src/lib.rt:10:1
pub returns-clause-fraction : goal.returns-clause-fraction
returns-clause-fraction c = bernoulli_fraction
