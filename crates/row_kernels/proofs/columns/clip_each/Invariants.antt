use Rattle.std.proofs.Common.{◌≡◌, ◌<◌, ℕ, pos, length, get_or}
use Rattle.metric_values.specs.Numbers.{clip}
use Rattle.row_kernels.proofs.columns.clip_each.Given as goal

abbrev pub invariant-loop-i : goal.invariant-loop-i
invariant-loop-i l =
    (length l.out ≡ length l.fn.out)
    × ((j : ℕ) → j < l.i → get_or l.out j (pos 0) ≡ clip l.lo l.hi (get_or l.a j (pos 0)))
