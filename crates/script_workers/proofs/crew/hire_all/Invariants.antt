use Rattle.std.proofs.Common.{◌≡◌, ◌+◌, ◌-◌, ◌<◌, ◌≤◌, ℕ, length, get_or}
use Rattle.std.specs.Prelude.{All, sum_by, vec_capacity}
use Rattle.session_core.specs.Blocks.{script_blocks}
use Rattle.script_workers.specs.Crews.{IsHired, needed}
use Rattle.script_workers.proofs.crew.hire_all.Given as goal

abbrev pub invariant-loop-index : goal.invariant-loop-index
invariant-loop-index g l = record {
  len : length l.crew.items ≡ l.index;
  room : l.count ≤ vec_capacity l.crew;
  kept : (l.passes.locks ≡ l.initial.passes.locks) × (l.passes.knows ≡ l.initial.passes.knows);
  needs : All (λ s. needed (l.count - l.index) ≤ s) l.passes.shares;
  hired : (i : ℕ) (d : _) → i < length l.crew.items
      → IsHired l.count i (script_blocks l.script) l.initial.passes (get_or l.crew.items i d).passes (get_or l.crew.items i d).texts;
  shares : (o : ℕ) → get_or l.passes.shares o 0 + sum_by (λ w. get_or w.passes.shares o 0) l.crew.items ≡ get_or l.initial.passes.shares o 0;
}
