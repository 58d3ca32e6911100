use Rattle.std.proofs.Common.{◌≡◌, ◌<◌, ℕ, pos, length, get_or}
use Rattle.std.specs.Int.{int_max}
use Rattle.row_kernels.proofs.columns.greater.Given as goal

abbrev pub invariant-loop-i : goal.invariant-loop-i
invariant-loop-i l =
    (length l.out ≡ length l.fn.out)
    × ((j : ℕ) → j < l.i → get_or l.out j (pos 0) ≡ int_max (get_or l.a j (pos 0)) (get_or l.b j (pos 0)))
