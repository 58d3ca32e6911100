use Rattle.std.proofs.Common.{append_assoc}
use Rattle.derivation_lines.proofs.Pending.{writes_infix}
use Rattle.derivation_lines.proofs.write.put_infix.Goals as goal

pub returns : goal.returns
returns c = λ T s e f l h. writes_infix T _ _ s _ _ c.args.a c.args.b c.args.sign e f c.in_ok-push-5.ensures.items (rw (c.in_ok-push-4.ensures.items, c.in_ok-push-3.ensures.items, c.in_ok-push-2.ensures.items, c.in_ok-push.ensures.items) (simp append_assoc)) l h
