-- What is left to prove of places::sum_at.
use Rattle.std.proofs.Common.{arith, inl, inr}
use Rattle.fz_frac.specs.Distance.{add}
use Rattle.fz_frac.proofs.Laws.{≈-refl}
use Rattle.linear_types.proofs.Rest.{answer_of, each_left, each_right, each_both, next_is}
use Rattle.linear_types.proofs.places.sum_at.Goals as goal

pub returns-then-i-b : goal.returns-then-i-b
returns-then-i-b c = next_is _ _ _ _ (each_left add c.args.a.now c.args.b.now c.args.i c.index-a-i.result c.if-i-a.false c.if-i-b.true c.index-a-i.is) (≈-refl _)

pub returns-else-i-b : goal.returns-else-i-b
returns-else-i-b c = next_is _ _ _ _ (each_both add c.args.a.now c.args.b.now c.args.i c.index-a-i-else-i-b.result c.index-b-i-else-i-b.result c.if-i-a.false c.if-i-b.false c.index-a-i-else-i-b.is c.index-b-i-else-i-b.is) (answer_of c.add.result _ c.add.ensures.exact c.add.ensures.range)

pub returns-then-i-a : goal.returns-then-i-a
returns-then-i-a c = next_is _ _ _ _ (each_right add c.args.a.now c.args.b.now c.args.i c.index-b-i.result c.if-i-a.true (elim c.requires [ inl h ↦ absurd (omega arith) | inr h ↦ h ]) c.index-b-i.is) (≈-refl _)
