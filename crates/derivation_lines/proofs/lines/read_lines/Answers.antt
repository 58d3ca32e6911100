use Rattle.std.proofs.Common.{◌≡◌, ℕ, ◌<◌, ◌+◌, ◌^◌, List, ◌∷◌, length, ap, subst, sym, ◌∙◌, arith, length-append}
use Rattle.std.proofs.lemmas.Bool.{eqb-false, eqb-true}
use Rattle.std.proofs.lemmas.List.{length_push, nil_from_length}
use Rattle.fz_ast.proofs.Arenas.{grows_refl, grows_trans}
use Rattle.derivation_lines.specs.Held.{lines_in}
use Rattle.derivation_lines.specs.Texts.{BeginWith, line_feed}
use Rattle.derivation_lines.proofs.Pieces.{explained}
use Rattle.derivation_lines.proofs.Derivations.{AreBegun, bytes_left, more_begun, no_line_at, no_line_ended, no_line_formed, none_begun}
use Rattle.derivation_lines.specs.declared.line.Line.{Line}
use Rattle.derivation_lines.proofs.lines.read_lines.Goals as goal

pub returns-in-Err-Form-clause-fault : goal.returns-in-Err-Form-clause-fault
returns-in-Err-Form-clause-fault c =
    let bad = explained _ _ c.in-Err-Form.ensures.fault c.in-Err-Form.field-0-is in
    no_line_at c.args.bytes.now c.loop-at.arena c.loop-at.lines.items c.loop-at.rest.now c.loop-at.invariant.begun c.args.count c.loop-at.at c.loop-at.invariant.count c.loop-at-test.true
    (no_line_formed c.loop-at.rest.now c.in-Some.text.now c.in-Some.after.now c.in-Some.ensures.cut c.in-Some.ensures.first bad)

pub loop-at-preserved : goal.loop-at-preserved
loop-at-preserved c =
    let T = c.loop-at.arena in let U = c.read_line.new.arena in
    let lines = c.loop-at.lines.items in let line = c.in-Ok.line in
    let read = c.in-Ok.ensures in
    let shorter : length c.in-Some.after.now < 2 ^ 32 = let h = c.loop-at.invariant.short in omega (arith, ap length c.in-Some.ensures.cut, length-append c.in-Some.text.now (line_feed ∷ c.in-Some.after.now)) in
    record {
      grows = grows_trans c.args.arena.now T U c.loop-at.invariant.grows read.grows;
      count = rw c.in_default-push.ensures.items (length_push lines line ∙ ap (λ k. k + 1) c.loop-at.invariant.count);
      begun = rw c.in_default-push.ensures.items (more_begun c.args.bytes.now T U lines c.loop-at.rest.now c.in-Some.text.now c.in-Some.after.now line
          c.loop-at.invariant.begun read.grows c.in-Some.ensures.cut c.in-Some.ensures.first read.known read.is);
      short = shorter;
    }

pub loop-at-init : goal.loop-at-init
loop-at-init c = record {
  grows = grows_refl c.args.arena.now;
  count = ap length c.new-lines.ensures.items;
  begun = subst (λ (ls : List Line). AreBegun c.args.bytes.now c.args.arena.now ls c.args.bytes.now) (sym c.new-lines.ensures.items) (none_begun c.args.bytes.now c.args.arena.now);
  short = c.requires;
}

pub returns-in_default-clause-grows : goal.returns-in_default-clause-grows
returns-in_default-clause-grows c = c.loop-at.invariant.grows

pub returns-in_default-clause-held : goal.returns-in_default-clause-held
returns-in_default-clause-held c = tt

pub returns-in_default-clause-lines : goal.returns-in_default-clause-lines
returns-in_default-clause-lines c = tt

pub returns-in_default-clause-count : goal.returns-in_default-clause-count
returns-in_default-clause-count c = tt

pub returns-in_default-clause-fault : goal.returns-in_default-clause-fault
returns-in_default-clause-fault c =
    no_line_at c.args.bytes.now c.loop-at.arena c.loop-at.lines.items c.loop-at.rest.now c.loop-at.invariant.begun c.args.count c.loop-at.at c.loop-at.invariant.count c.loop-at-test.true
    (no_line_ended c.loop-at.rest.now c.in_default.ensures.none)

pub read_line-requires : goal.read_line-requires
read_line-requires c =
    let h = c.loop-at.invariant.short in omega (arith, ap length c.in-Some.ensures.cut, length-append c.in-Some.text.now (line_feed ∷ c.in-Some.after.now))

pub returns-in-Err-clause-grows : goal.returns-in-Err-clause-grows
returns-in-Err-clause-grows c = grows_trans c.args.arena.now c.loop-at.arena c.read_line.new.arena c.loop-at.invariant.grows c.in-Ok.ensures.grows

pub returns-in-Err-clause-held : goal.returns-in-Err-clause-held
returns-in-Err-clause-held c = tt

pub returns-in-Err-clause-lines : goal.returns-in-Err-clause-lines
returns-in-Err-clause-lines c = tt

pub returns-in-Err-clause-count : goal.returns-in-Err-clause-count
returns-in-Err-clause-count c = tt

pub returns-in-Err-clause-fault : goal.returns-in-Err-clause-fault
returns-in-Err-clause-fault c = tt

pub returns-in-Err-Form-clause-grows : goal.returns-in-Err-Form-clause-grows
returns-in-Err-Form-clause-grows c = grows_trans c.args.arena.now c.loop-at.arena c.read_line.new.arena c.loop-at.invariant.grows c.in-Err-Form.ensures.grows

pub returns-in-Err-Form-clause-held : goal.returns-in-Err-Form-clause-held
returns-in-Err-Form-clause-held c = tt

pub returns-in-Err-Form-clause-lines : goal.returns-in-Err-Form-clause-lines
returns-in-Err-Form-clause-lines c = tt

pub returns-in-Err-Form-clause-count : goal.returns-in-Err-Form-clause-count
returns-in-Err-Form-clause-count c = tt

pub returns-in-Err-NoMemory-clause-grows : goal.returns-in-Err-NoMemory-clause-grows
returns-in-Err-NoMemory-clause-grows c = grows_trans c.args.arena.now c.loop-at.arena c.read_line.new.arena c.loop-at.invariant.grows c.in-Err-NoMemory.ensures.grows

pub returns-in-Err-NoMemory-clause-held : goal.returns-in-Err-NoMemory-clause-held
returns-in-Err-NoMemory-clause-held c = tt

pub returns-in-Err-NoMemory-clause-lines : goal.returns-in-Err-NoMemory-clause-lines
returns-in-Err-NoMemory-clause-lines c = tt

pub returns-in-Err-NoMemory-clause-count : goal.returns-in-Err-NoMemory-clause-count
returns-in-Err-NoMemory-clause-count c = tt

pub returns-in-Err-NoMemory-clause-fault : goal.returns-in-Err-NoMemory-clause-fault
returns-in-Err-NoMemory-clause-fault c = tt

pub returns-then-not-is_empty-clause-grows : goal.returns-then-not-is_empty-clause-grows
returns-then-not-is_empty-clause-grows c = c.loop-at.invariant.grows

pub returns-then-not-is_empty-clause-held : goal.returns-then-not-is_empty-clause-held
returns-then-not-is_empty-clause-held c = tt

pub returns-then-not-is_empty-clause-lines : goal.returns-then-not-is_empty-clause-lines
returns-then-not-is_empty-clause-lines c = tt

pub returns-then-not-is_empty-clause-count : goal.returns-then-not-is_empty-clause-count
returns-then-not-is_empty-clause-count c = tt

pub returns-then-not-is_empty-clause-fault : goal.returns-then-not-is_empty-clause-fault
returns-then-not-is_empty-clause-fault c =
    let all : length c.loop-at.lines.items ≡ c.args.count = let k = c.loop-at.invariant.count in let a = c.loop-at.auto.at-end in let b = c.loop-at-test.false in omega (arith, k, a, b) in
    bytes_left c.args.bytes.now c.loop-at.arena c.loop-at.lines.items c.loop-at.rest.now c.loop-at.invariant.begun c.args.count all
    (λ none. eqb-false (length c.loop-at.rest.now) 0 (sym c.is_empty.ensures ∙ c.if-not-is_empty.true) (ap length none))

pub returns-clause-grows : goal.returns-clause-grows
returns-clause-grows c = c.loop-at.invariant.grows

pub returns-clause-held : goal.returns-clause-held
returns-clause-held c = c.loop-at.invariant.begun.held

pub returns-clause-lines : goal.returns-clause-lines
returns-clause-lines c =
    let none = nil_from_length c.loop-at.rest.now (eqb-true (length c.loop-at.rest.now) 0 (sym c.is_empty.ensures ∙ c.if-not-is_empty.false)) in
    subst (λ (rest : List ℕ). BeginWith c.args.bytes.now (lines_in c.loop-at.arena c.loop-at.lines.items) rest) none c.loop-at.invariant.begun.begin

pub returns-clause-count : goal.returns-clause-count
returns-clause-count c =
    let k = c.loop-at.invariant.count in let a = c.loop-at.auto.at-end in let b = c.loop-at-test.false in omega (arith, k, a, b)

pub returns-clause-fault : goal.returns-clause-fault
returns-clause-fault c = tt
