use Rattle.std.proofs.Common.{arith, refl}
use Rattle.fz_lexer.proofs.Spellings.{sign_at, sign_below, sign_place}
use Rattle.fz_lexer.proofs.Prefixes.{longest_at}
use Rattle.fz_lexer.proofs.sign.sign_at.Goals as goal

pub returns-then-stands-clause-found : goal.returns-then-stands-clause-found
returns-then-stands-clause-found c =
    let s = c.stands.ensures.yes c.if-stands.true in
    (s, longest_at c.loop-i.i _ c.args.bytes.now c.loop-i-test.true refl s c.loop-i.invariant)

pub returns-clause-none : goal.returns-clause-none
returns-clause-none c = λ s text after e h.
    let l = sign_below s in c.loop-i.invariant (sign_place s) (omega arith) text after e (rw (sign_at s) h)
