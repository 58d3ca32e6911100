use Rattle.std.proofs.Common.{◌≡◌, ◌≤◌, pos}
use Rattle.std.specs.Prelude.{take}
use Rattle.row_kernels.specs.Gathers.{count_there}
use Rattle.row_kernels.proofs.gather.there_in.Given as goal

abbrev pub invariant-loop-j : goal.invariant-loop-j
invariant-loop-j l = (pos l.count ≡ count_there (take l.j l.there)) × (l.count ≤ l.j)
