use Rattle.std.proofs.Common.{◌≡◌, ◌++◌, ◌≤◌, ℕ, List, length}
use Rattle.std.specs.Prelude.{vec_capacity}
use Rattle.wire_lines.specs.Lines.{lines_of}
use Rattle.owner_history.specs.OwnerHouse.House.{house_of}
use Rattle.session_core.specs.Blocks.{behind_block, first_block}
use Rattle.session_core.specs.Code.{IsAnalyst, ArePasses}
use Rattle.session_core.proofs.Serving.{IsUpTo}
use Rattle.session_core.proofs.script.answer_block.Given as goal

abbrev pub invariant-loop-line : goal.invariant-loop-line
invariant-loop-line g l = record {
  passes : ArePasses (house_of l.server.house.now) l.passes.knows;
  kept : l.passes ≡ record l.fn.passes { knows = l.passes.knows };
  known : IsAnalyst (house_of l.server.house.now) l.who;
  text : List ℕ;
  items : l.out.items ≡ l.fn.out.items ++ text;
  capacity : vec_capacity l.out ≡ vec_capacity l.fn.out;
  told : IsUpTo (house_of l.server.house.now) (g.S.Streams.given l.server.streams.now) (first_block (lines_of l.fn.script)) (first_block (lines_of l.rest)) l.who text l.fn.passes.knows l.passes.knows;
  behind : behind_block (lines_of l.rest) ≡ behind_block (lines_of l.fn.script);
  nearer : length l.rest ≤ length l.fn.script;
}

abbrev pub decreases-loop-line : goal.decreases-loop-line
decreases-loop-line g l = length l.rest
