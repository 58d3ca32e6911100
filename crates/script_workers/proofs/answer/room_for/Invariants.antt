use Rattle.std.proofs.Common.{◌≡◌, ◌+◌, ◌-◌, ◌^◌, ℕ, length, sum_by}
use Rattle.std.specs.Prelude.{min}
use Rattle.session_core.specs.Blocks.{script_blocks}
use Rattle.session_core.specs.Code.{room_for_lines}
use Rattle.script_workers.proofs.answer.room_for.Given as goal

abbrev pub invariant-loop-rest : goal.invariant-loop-rest
invariant-loop-rest l = record {
  sum : ℕ;
  room : l.room ≡ min (2 ^ 64 - 1) sum;
  whole : sum_by room_for_lines (script_blocks l.fn.script) ≡ sum + sum_by room_for_lines (script_blocks l.rest);
}

abbrev pub decreases-loop-rest : goal.decreases-loop-rest
decreases-loop-rest l = length l.rest
