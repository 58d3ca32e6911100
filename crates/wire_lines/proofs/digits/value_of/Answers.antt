use Rattle.std.proofs.Common.{arith}
use Rattle.std.proofs.lemmas.Grind.{common_steps}
use Rattle.wire_lines.proofs.Numerals.{next_digit, six_digits}
use Rattle.wire_lines.proofs.digits.value_of.Goals as goal

pub overflow_mul-value : goal.overflow_mul-value
overflow_mul-value c = let (low, high, step, small) = next_digit c.args.digits.now c.loop-b.b-index c.requires.digits c.requires.short c.loop-b-test.true in omega arith

pub overflow_sub-b : goal.overflow_sub-b
overflow_sub-b c = (next_digit c.args.digits.now c.loop-b.b-index c.requires.digits c.requires.short c.loop-b-test.true).0

pub overflow_add-value : goal.overflow_add-value
overflow_add-value c = let (low, high, step, small) = next_digit c.args.digits.now c.loop-b.b-index c.requires.digits c.requires.short c.loop-b-test.true in omega arith

pub loop-b-preserved : goal.loop-b-preserved
loop-b-preserved c = let (low, high, step, small) = next_digit c.args.digits.now c.loop-b.b-index c.requires.digits c.requires.short c.loop-b-test.true in omega arith

pub returns-clause-small : goal.returns-clause-small
returns-clause-small c short = let h = six_digits c.args.digits.now c.requires.digits short in grind (arith, common_steps)
