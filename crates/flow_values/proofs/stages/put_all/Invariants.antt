use Rattle.std.specs.Prelude.{take}
use Rattle.flow_values.specs.Strands.{AreAppended}
use Rattle.flow_values.proofs.stages.put_all.Given as goal

abbrev pub invariant-loop-i : goal.invariant-loop-i
invariant-loop-i l = AreAppended l.fn.out.items (take l.i l.strands) l.out.items
