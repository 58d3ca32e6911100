use Rattle.std.proofs.Common.{◌∙◌, ◌++◌, ◌∷◌, [], List, ℕ, sym, ap, append_assoc, append-nil}
use Rattle.std.specs.Borrow.{Bor}
use Rattle.std.proofs.lemmas.List.{map-append}
use Rattle.wire_lines.specs.Lines.{lines_of}
use Rattle.session_core.specs.Blocks.{first_block, script_blocks}
use Rattle.script_workers.specs.Starts.{blocks_at}
use Rattle.script_workers.proofs.Blocks.{has_bytes, next_block, no_blocks}
use Rattle.script_workers.proofs.starts.starts_of.Goals as goal

pub loop-rest-init : goal.loop-rest-init
loop-rest-init c = record { whole = ap (λ starts. blocks_at starts ++ script_blocks c.args.script.now) (sym c.new-starts.ensures.items) }

pub loop-rest-preserved : goal.loop-rest-preserved
loop-rest-preserved c =
    let rest = c.loop-rest.rest in
    let starts = c.loop-rest.starts.items in
    let some = has_bytes rest.now (sym c.is_empty.ensures ∙ c.loop-rest-test.true) in
    let next = next_block rest.now c.pass_block.result.behind.now some c.pass_block.ensures.behind in
    let left = script_blocks c.pass_block.result.behind.now in
    let more = map-append (λ (start : Bor (List ℕ)). first_block (lines_of start.now)) starts (rest ∷ []) in
    record {
      whole = c.loop-rest.invariant.whole
          ∙ ap (λ bs. blocks_at starts ++ bs) next
          ∙ sym (append_assoc (blocks_at starts) (first_block (lines_of rest.now) ∷ []) left)
          ∙ ap (λ bs. bs ++ left) (sym more)
          ∙ ap (λ ss. blocks_at ss ++ left) (sym c.in_ok-push.ensures.items);
    }

pub returns : goal.returns
returns c =
    let none = no_blocks c.loop-rest.rest.now (sym c.is_empty.ensures ∙ c.loop-rest-test.false) in
    sym (c.loop-rest.invariant.whole ∙ ap (λ bs. blocks_at c.loop-rest.starts.items ++ bs) none ∙ append-nil (blocks_at c.loop-rest.starts.items))
