use Rattle.std.proofs.Common.{◌≡◌, ◌+◌, ◌<◌, ◌≤◌, ℕ, length, take, get_or}
use Rattle.std.specs.Prelude.{vec_capacity}
use Rattle.worker_pool.specs.Gates.{Went}
use Rattle.worker_pool.proofs.together.bring_back.Given as goal

abbrev pub invariant-loop-thread : goal.invariant-loop-thread
invariant-loop-thread g l = record {
  left : l.threads.items ≡ take (length l.threads.items) l.initial.threads.items;
  len : length l.crew.items + length l.threads.items ≡ length l.before.value.items;
  room : length l.before.value.items ≤ vec_capacity l.crew;
  kept : take (length l.initial.crew.items) l.crew.items ≡ l.initial.crew.items;
  more : length l.initial.crew.items ≤ length l.crew.items;
  went : (i : ℕ) (d : _) → length l.initial.crew.items ≤ i → i < length l.crew.items
      → Went (g.W.Work.does l.work i) l.told.value (get_or l.before.value.items i d) (get_or l.crew.items i d);
}

abbrev pub decreases-loop-thread : goal.decreases-loop-thread
decreases-loop-thread g l = length l.threads.items
