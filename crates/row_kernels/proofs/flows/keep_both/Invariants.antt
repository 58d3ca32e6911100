use Rattle.std.proofs.Common.{◌≡◌, ◌<◌, ℕ, length, get_or}
use Rattle.std.specs.Prelude.{false, ◌&&◌}
use Rattle.flow_values.specs.Computed.{agree}
use Rattle.row_kernels.proofs.flows.keep_both.Given as goal

abbrev pub invariant-loop-i : goal.invariant-loop-i
invariant-loop-i l =
    (length l.out ≡ length l.fn.out)
    × ((j : ℕ) → j < l.i → get_or l.out j false ≡ (get_or l.there j false && agree l.keep (get_or l.told j false)))
