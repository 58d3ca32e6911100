use Rattle.std.proofs.Common.{◌≡◌, ◌+◌, ◌<◌, ◌≤◌, ℕ, length, get_or}
use Rattle.session_core.specs.Blocks.{script_blocks}
use Rattle.script_workers.proofs.Needing.{AreCounted}
use Rattle.script_workers.proofs.needs.needs_of_all.Given as goal

abbrev pub invariant-loop-rest : goal.invariant-loop-rest
invariant-loop-rest l = record {
  hands : length l.needs ≡ 16;
  each : (i : ℕ) (d : _) → i < l.fn.count → AreCounted l.fn.count i l.number (script_blocks l.fn.script) (script_blocks l.rest) (get_or l.needs i d);
  nearer : l.number + length l.rest ≤ length l.fn.script;
}

abbrev pub decreases-loop-rest : goal.decreases-loop-rest
decreases-loop-rest l = length l.rest
