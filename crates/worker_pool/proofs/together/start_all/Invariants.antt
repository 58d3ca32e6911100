use Rattle.std.proofs.Common.{◌≡◌, ◌+◌, ◌≤◌, length, take, map}
use Rattle.std.specs.Prelude.{vec_capacity}
use Rattle.worker_pool.specs.Gates.{AreOut, errand}
use Rattle.worker_pool.proofs.together.start_all.Given as goal

abbrev pub invariant-loop-worker : goal.invariant-loop-worker
invariant-loop-worker g l = record {
  rest : l.crew.items ≡ take (length l.crew.items) l.initial.crew.items;
  capacity : vec_capacity l.crew ≡ vec_capacity l.initial.crew;
  threads : AreOut l.gate.id l.work l.initial.crew.items (map (λ t. errand t.promise.gate.now.id t.promise.work.now t.promise.place t.promise.before.value) l.threads.items);
  len : length l.crew.items + length l.threads.items ≡ length l.initial.crew.items;
  room : length l.initial.crew.items ≤ vec_capacity l.threads;
}

abbrev pub decreases-loop-worker : goal.decreases-loop-worker
decreases-loop-worker g l = length l.crew.items
