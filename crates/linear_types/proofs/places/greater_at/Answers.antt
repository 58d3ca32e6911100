-- What is left to prove of places::greater_at.
use Rattle.std.proofs.Common.{arith, inl, inr}
use Rattle.fz_frac.specs.Distance.{greater}
use Rattle.linear_types.proofs.Rest.{each_left, each_right, each_both}
use Rattle.linear_types.proofs.places.greater_at.Goals as goal

pub returns-then-i-b : goal.returns-then-i-b
returns-then-i-b c = each_left greater c.args.a.now c.args.b.now c.args.i c.index-a-i.result c.if-i-a.false c.if-i-b.true c.index-a-i.is

pub returns-else-i-b : goal.returns-else-i-b
returns-else-i-b c = rw c.max.ensures (each_both greater c.args.a.now c.args.b.now c.args.i c.index-a-i-else-i-b.result c.index-b-i-else-i-b.result c.if-i-a.false c.if-i-b.false c.index-a-i-else-i-b.is c.index-b-i-else-i-b.is)

pub returns-then-i-a : goal.returns-then-i-a
returns-then-i-a c = each_right greater c.args.a.now c.args.b.now c.args.i c.index-b-i.result c.if-i-a.true (elim c.requires [ inl h ↦ absurd (omega arith) | inr h ↦ h ]) c.index-b-i.is
