use Rattle.std.proofs.Common.{◌≡◌, ◌+◌, ◌++◌, ◌<◌, ◌≤◌, ℕ, length, get_or, drop, map}
use Rattle.std.specs.Prelude.{sum_by, vec_capacity}
use Rattle.held_sessions.specs.SessionCore.Code.{pass_at}
use Rattle.script_workers.specs.Crews.{HasTakenAll}
use Rattle.service_workers.specs.Code.{worst_of}
use Rattle.service_workers.proofs.crew.bring_in.Given as goal

abbrev pub invariant-loop-worker : goal.invariant-loop-worker
invariant-loop-worker g l = record {
  locks : l.passes.locks ≡ l.initial.passes.locks;
  front : l.initial.workers.items ≡ l.workers.items ++ drop (length l.workers.items) l.initial.workers.items;
  shares : (o : ℕ) → get_or l.passes.shares o 0
      ≡ get_or l.initial.passes.shares o 0 + sum_by (λ w. get_or w.passes.shares o 0) (drop (length l.workers.items) l.initial.workers.items);
  taken : (o : ℕ) → o < length l.desks → HasTakenAll (pass_at l.initial.passes.knows o)
      (map (λ w. pass_at w.passes.knows o) (drop (length l.workers.items) l.initial.workers.items)) (pass_at l.passes.knows o);
  doors : l.doors.items ≡ map (λ w. w.door) (drop (length l.workers.items) l.initial.workers.items) ++ l.initial.doors.items;
  room : length l.workers.items + length l.doors.items ≤ vec_capacity l.doors;
  end : l.end ≡ worst_of (map (λ w. w.end) (drop (length l.workers.items) l.initial.workers.items));
}

abbrev pub decreases-loop-worker : goal.decreases-loop-worker
decreases-loop-worker g l = length l.workers.items
