use Rattle.std.proofs.Common.{◌≡◌, ◌+◌, ◌++◌, ◌-◌, ◌<◌, ◌≤◌, ℕ, length, get_or, map}
use Rattle.std.specs.Prelude.{All, sum_by, vec_capacity}
use Rattle.held_sessions.specs.SessionCore.Bundles.{handed_on}
use Rattle.script_workers.specs.Crews.{needed}
use Rattle.service_workers.proofs.crew.hire_all.Given as goal

abbrev pub invariant-loop : goal.invariant-loop
invariant-loop g l = record {
  len : length l.crew.items ≡ l.counter;
  room : l.count ≤ vec_capacity l.crew;
  kept : (l.passes.locks ≡ l.initial.passes.locks) × (l.passes.knows ≡ l.initial.passes.knows);
  needs : All (λ s. needed (l.count - l.counter) ≤ s) l.passes.shares;
  hired : (i : ℕ) (d : _) → i < length l.crew.items
      → ((get_or l.crew.items i d).passes.locks ≡ l.initial.passes.locks) × ((get_or l.crew.items i d).passes.knows ≡ map handed_on l.initial.passes.knows);
  doors : l.initial.doors.items ≡ map (λ w. w.door) l.crew.items ++ l.doors.items;
  capacity : vec_capacity l.doors ≡ vec_capacity l.initial.doors;
  shares : (o : ℕ) → get_or l.passes.shares o 0 + sum_by (λ w. get_or w.passes.shares o 0) l.crew.items ≡ get_or l.initial.passes.shares o 0;
}
