use Rattle.std.proofs.Common.{◌≡◌, ◌+◌, ◌<◌, List, ℕ, length, sum_by, sym, ap, ◌∙◌, arith}
use Rattle.std.proofs.lemmas.List.Sums.{sum_by-cons}
use Rattle.wire_lines.specs.Lines.{lines_of}
use Rattle.session_core.specs.Blocks.{first_block, script_blocks}
use Rattle.session_core.specs.Code.{room_for_lines}
use Rattle.script_workers.proofs.Blocks.{has_bytes, next_block, no_blocks}
use Rattle.script_workers.proofs.answer.room_for.Goals as goal

pub loop-rest-preserved : goal.loop-rest-preserved
loop-rest-preserved c =
    let block = first_block (lines_of c.loop-rest.rest.now) in
    let behind = script_blocks c.pass_block-block.result.behind.now in
    let some : 0 < length c.loop-rest.rest.now = has_bytes c.loop-rest.rest.now (sym c.is_empty.ensures ∙ c.loop-rest-test.true) in
    let next = next_block c.loop-rest.rest.now c.pass_block-block.result.behind.now some c.pass_block-block.ensures.behind in
    record {
      sum = c.loop-rest.invariant.sum + room_for_lines block;
      room = omega (arith, c.saturating_add-room.ensures, c.pass_block-block.ensures.room, c.loop-rest.invariant.room);
      whole = omega (arith, c.loop-rest.invariant.whole, ap (sum_by room_for_lines) next, sum_by-cons room_for_lines block behind);
    }

pub returns : goal.returns
returns c =
    let none = no_blocks c.loop-rest.rest.now (sym c.is_empty.ensures ∙ c.loop-rest-test.false) in
    omega (arith, c.loop-rest.invariant.room, c.loop-rest.invariant.whole, ap (sum_by room_for_lines) none)
