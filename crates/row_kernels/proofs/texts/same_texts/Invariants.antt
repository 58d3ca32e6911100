use Rattle.row_kernels.specs.Lanes.{AreSameTexts}
use Rattle.row_kernels.proofs.texts.same_texts.Given as goal

abbrev pub invariant-loop-j : goal.invariant-loop-j
invariant-loop-j l = AreSameTexts l.j l.a l.b l.out.items
