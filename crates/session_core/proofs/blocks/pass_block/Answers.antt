use Rattle.std.proofs.Common.{◌+◌, sym, ◌∙◌, ap, arith, length}
use Rattle.wire_lines.specs.Lines.{lines_of}
use Rattle.session_core.specs.Blocks.{behind_block, first_block}
use Rattle.session_core.specs.Code.{room_for_line, room_for_lines}
use Rattle.session_core.proofs.FirstBlocks.{block_goes}
use Rattle.session_core.proofs.Serving.{room_next}
use Rattle.session_core.proofs.blocks.pass_block.Goals as goal

pub loop-line-preserved : goal.loop-line-preserved
loop-line-preserved c =
    let line = c.in-Some.line.now in
    let rest = lines_of c.in-Some.after.now in
    let goes = block_goes line rest (sym c.ends_block.ensures ∙ c.if-ends_block.false) in
    record {
      sum = c.loop-line.invariant.sum + room_for_line (length line);
      room = omega (arith, c.saturating_add-room.ensures, c.room_of.ensures, c.loop-line.invariant.room);
      rest = omega (arith, c.loop-line.invariant.rest, ap (λ ls. room_for_lines (first_block ls)) c.in-Some.ensures.lines, ap room_for_lines goes.0, room_next line (first_block rest));
      behind = c.loop-line.invariant.behind ∙ ap behind_block c.in-Some.ensures.lines ∙ goes.1;
      nearer = omega (arith, c.loop-line.invariant.nearer, c.in-Some.ensures.nearer);
    }
