use Rattle.std.proofs.Common.{◌≡◌, ◌<◌, ℕ, pos, length, get_or}
use Rattle.std.specs.Int.{int_min}
use Rattle.row_kernels.proofs.columns.lesser.Given as goal

abbrev pub invariant-loop-i : goal.invariant-loop-i
invariant-loop-i l =
    (length l.out ≡ length l.fn.out)
    × ((j : ℕ) → j < l.i → get_or l.out j (pos 0) ≡ int_min (get_or l.a j (pos 0)) (get_or l.b j (pos 0)))
