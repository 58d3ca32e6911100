use Rattle.std.proofs.Common.{◌^◌, arith, refl}
use Rattle.fz_lexer.proofs.Prefixes.{digit_next, value_over}
use Rattle.fz_lexer.proofs.prefix.value_of.Goals as goal

pub overflow_sub-value : goal.overflow_sub-value
overflow_sub-value c = (digit_next c.args.digits.now c.loop-b.b-index _ (omega arith) refl c.loop-b.invariant.digits).0

pub returns-then-value-gt1125899906842624-clause-none : goal.returns-then-value-gt1125899906842624-clause-none
returns-then-value-gt1125899906842624-clause-none c =
    value_over c.args.digits.now c.loop-b.b-index _ c.loop-b.value (2 ^ 50) (omega arith) refl c.loop-b.invariant.same (omega arith)
