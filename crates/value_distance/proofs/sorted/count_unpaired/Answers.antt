use Rattle.std.proofs.Common.{arith, inl, inr}
use Rattle.value_distance.proofs.Merged.{after_equal, after_higher, after_lower, at_the_end}
use Rattle.value_distance.proofs.sorted.count_unpaired.Goals.{then-loop-i-test+else-j-ys, else-loop-i-test}
use Rattle.value_distance.proofs.sorted.count_unpaired.Goals as goal

pub loop-i-preserved-in-Less : goal.loop-i-preserved-in-Less
loop-i-preserved-in-Less g c =
    record {
      left_within = omega arith;
      right_within = omega arith;
      few = omega arith;
      same = after_lower g.E.Element.element c.args.xs.now c.args.ys.now c.loop-i.i c.loop-i.j c.loop-i.unpaired _ c.index-xs-i.result c.index-ys-j.result c.compare.result c.requires.right_sorted (omega arith) (omega arith) c.index-xs-i.is c.index-ys-j.is c.compare.ensures c.in-Less.is c.loop-i.invariant.same;
    }

pub loop-i-preserved-in-Equal : goal.loop-i-preserved-in-Equal
loop-i-preserved-in-Equal g c =
    record {
      left_within = omega arith;
      right_within = omega arith;
      few = omega arith;
      same = after_equal g.E.Element.element c.args.xs.now c.args.ys.now c.loop-i.i c.loop-i.j c.loop-i.unpaired _ c.index-xs-i.result c.index-ys-j.result c.compare.result (omega arith) (omega arith) c.index-xs-i.is c.index-ys-j.is c.compare.ensures c.in-Equal.is c.loop-i.invariant.same;
    }

pub loop-i-preserved : goal.loop-i-preserved
loop-i-preserved g c =
    record {
      left_within = omega arith;
      right_within = omega arith;
      few = omega arith;
      same = after_higher g.E.Element.element c.args.xs.now c.args.ys.now c.loop-i.i c.loop-i.j c.loop-i.unpaired _ c.index-xs-i.result c.index-ys-j.result c.compare.result c.requires.left_sorted (omega arith) (omega arith) c.index-xs-i.is c.index-ys-j.is c.compare.ensures c.in-Greater.is c.loop-i.invariant.same;
    }

pub returns : goal.returns
returns g c =
    at_the_end g.E.Element.element c.args.xs.now c.args.ys.now c.loop-i.i c.loop-i.j c.loop-i.unpaired _ c.loop-i.invariant.left_within c.loop-i.invariant.right_within
    (elim c.loop-i-test.branch [ then-loop-i-test+else-j-ys w ↦ inr w.if-j-ys.false | else-loop-i-test w ↦ inl w.loop-i-test.false ])
    c.loop-i.invariant.same
