use Rattle.std.specs.Prelude.{take}
use Rattle.flow_values.specs.Strands.{AreStaged}
use Rattle.flow_values.proofs.stages.all_staged.Given as goal

abbrev pub invariant-loop-i : goal.invariant-loop-i
invariant-loop-i l = AreStaged l.function.value l.left l.keeps (take l.i l.strands) l.out.items
