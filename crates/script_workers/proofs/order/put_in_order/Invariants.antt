use Rattle.std.proofs.Common.{◌≡◌, ◌+◌, ◌<◌, ◌≤◌, ℕ, List, length, drop, get_or, sum_by}
use Rattle.std.specs.Prelude.{vec_capacity}
use Rattle.session_core.specs.Code.{room_for_lines}
use Rattle.script_workers.specs.Starts.{blocks_at}
use Rattle.script_workers.specs.Texts.{in_all}
use Rattle.script_workers.proofs.Ordered.{IsDealtOut}
use Rattle.script_workers.proofs.order.put_in_order.Given as goal

abbrev pub invariant-loop-number : goal.invariant-loop-number
invariant-loop-number g l = record {
  done : List (List ℕ);
  count : length done ≡ l.number;
  items : l.out.items ≡ in_all done;
  room : length l.out.items + sum_by room_for_lines (drop l.number (blocks_at l.starts)) ≤ vec_capacity l.out;
  hands : length l.given ≡ 16;
  each : (i : ℕ) (d : _) → i < length l.fn.crew → IsDealtOut (length l.fn.crew) i l.number (drop l.number (blocks_at l.starts)) done (get_or l.fn.crew i d).texts (get_or l.given i 0);
}
