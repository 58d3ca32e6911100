use Rattle.std.proofs.Common.{◌≡◌, ◌+◌, ◌-◌, ◌^◌, ◌≤◌, ℕ, length}
use Rattle.std.specs.Prelude.{min}
use Rattle.wire_lines.specs.Lines.{lines_of}
use Rattle.session_core.specs.Blocks.{behind_block, first_block}
use Rattle.session_core.specs.Code.{room_for_lines}
use Rattle.session_core.proofs.blocks.pass_block.Given as goal

abbrev pub invariant-loop-line : goal.invariant-loop-line
invariant-loop-line l = record {
  sum : ℕ;
  room : l.room ≡ min (2 ^ 64 - 1) sum;
  rest : room_for_lines (first_block (lines_of l.fn.script)) ≡ sum + room_for_lines (first_block (lines_of l.behind));
  behind : behind_block (lines_of l.fn.script) ≡ behind_block (lines_of l.behind);
  nearer : length l.behind ≤ length l.fn.script;
}

abbrev pub decreases-loop-line : goal.decreases-loop-line
decreases-loop-line l = length l.behind
