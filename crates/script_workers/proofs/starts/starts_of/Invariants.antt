use Rattle.std.proofs.Common.{◌≡◌, ◌++◌, length}
use Rattle.session_core.specs.Blocks.{script_blocks}
use Rattle.script_workers.specs.Starts.{blocks_at}
use Rattle.script_workers.proofs.starts.starts_of.Given as goal

abbrev pub invariant-loop-rest : goal.invariant-loop-rest
invariant-loop-rest l = record {
  whole : script_blocks l.fn.script ≡ blocks_at l.starts.items ++ script_blocks l.rest;
}

abbrev pub decreases-loop-rest : goal.decreases-loop-rest
decreases-loop-rest l = length l.rest
