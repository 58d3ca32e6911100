use Rattle.std.proofs.Common.{◌+◌, ◌%◌, ◌<◌, ◌∙◌, List, ℕ, length, get_or, set, refl, sym, subst, arith, mod-lt, inl, inr, length-set, get_or-set_same, get_or-set_other}
use Rattle.std.proofs.lemmas.Bool.{cases_eq}
use Rattle.wire_lines.specs.Lines.{lines_of}
use Rattle.session_core.specs.Blocks.{first_block, script_blocks}
use Rattle.script_workers.specs.declared.needs.Needs.{Needs}
use Rattle.script_workers.proofs.Blocks.{has_bytes, next_block, no_blocks}
use Rattle.script_workers.proofs.Needing.{AreCounted, all_counted, own_counted, others_counted}
use Rattle.script_workers.proofs.needs.needs_of_all.Goals as goal

pub loop-rest-preserved : goal.loop-rest-preserved
loop-rest-preserved c =
    let invariant = c.loop-rest.invariant in
    let count = c.args.count in
    let number = c.loop-rest.number in
    let j = number % count in
    let needs = c.loop-rest.needs in
    let none : Needs = record { room = 0; blocks = 0 } in
    let more : Needs = record { room = c.saturating_add-room.result; blocks = (get_or needs j none).blocks + 1 } in
    let all = script_blocks c.args.script.now in
    let left = script_blocks c.loop-rest.rest.now in
    let block = first_block (lines_of c.loop-rest.rest.now) in
    let behind = script_blocks c.pass_block-block.result.behind.now in
    let within : j < count = mod-lt number c.requires.count.0 in
    let some = has_bytes c.loop-rest.rest.now (sym c.is_empty.ensures ∙ c.loop-rest-test.true) in
    let next = next_block c.loop-rest.rest.now c.pass_block-block.result.behind.now some c.pass_block-block.ensures.behind in
    record {
      hands = length-set needs j more ∙ invariant.hands;
      each = λ i d less. elim (cases_eq j i) [
        | inl same ↦
            let own = own_counted count j number all left block behind next (get_or needs j none) (invariant.each j none within) refl more c.pass_block-block.result.room c.pass_block-block.ensures.room (omega (arith, c.saturating_add-room.ensures)) refl in
            subst (λ z. AreCounted count z (number + 1) all behind (get_or (set needs j more) z d)) same
            (subst (λ n. AreCounted count j (number + 1) all behind n) (sym (get_or-set_same needs j more d (omega (arith, within, invariant.hands, c.requires.count.1)))) own)
        | inr other ↦
            subst (λ n. AreCounted count i (number + 1) all behind n) (sym (get_or-set_other needs j i more d (λ same. other (sym same))))
            (others_counted count i number all left block behind next (get_or needs i d) (invariant.each i d less) other)
      ];
      nearer = omega (arith, invariant.nearer, c.pass_block-block.ensures.nearer some);
    }

pub returns : goal.returns
returns c = λ i d less.
    let none = no_blocks c.loop-rest.rest.now (sym c.is_empty.ensures ∙ c.loop-rest-test.false) in
    all_counted c.args.count i c.loop-rest.number (script_blocks c.args.script.now) (script_blocks c.loop-rest.rest.now) (get_or c.loop-rest.needs i d) none (c.loop-rest.invariant.each i d less)
