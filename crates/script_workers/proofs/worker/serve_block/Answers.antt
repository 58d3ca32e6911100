use Rattle.std.proofs.Common.{◌≡◌, ◌≤◌, List, ℕ, length, ◌++◌, subst, arith}
use Rattle.wire_lines.specs.Lines.{lines_of}
use Rattle.session_core.specs.Blocks.{first_block}
use Rattle.session_core.specs.Code.{room_for_lines}
use Rattle.script_workers.specs.Crews.{replies_text}
use Rattle.script_workers.proofs.Kept.{holds_push}
use Rattle.script_workers.proofs.worker.serve_block.Goals as goal

pub returns-clause-served : goal.returns-clause-served
returns-clause-served g c =
    let served = c.answer_block.ensures.served in
    let has = served.3 in (
      has.exchanges,
      has.turns_are,
      has.served,
      subst (λ (text : List ℕ). length text ≤ room_for_lines (first_block (lines_of c.args.lines.now))) has.written served.2,
      λ texts holds. holds_push c.args.worker.now.texts (record { bytes = c.answer_block.new.out; ends = c.push_reserved.new.self }) texts (replies_text has.exchanges) c.len.result holds
          (subst (λ (text : List ℕ). c.answer_block.new.out.items ≡ c.args.worker.now.texts.bytes.items ++ text) has.written served.1) c.push_reserved.ensures.items (omega (arith, c.len.ensures, c.answer_block.new.out.ok.0)),
    )
