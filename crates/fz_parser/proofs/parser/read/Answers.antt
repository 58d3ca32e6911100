use Rattle.std.proofs.Common.{◌≡◌, ◌<◌, arith, length, reverse}
use Rattle.fz_parser.specs.Kept.{state_of}
use Rattle.fz_parser.proofs.Stacks.{class_at, class_end, class_below, empty_before, dead_end_before, wanted_before, wanted_fits, wanted_on, wanted_sound, empty_end, dead_end_last, wants_end, starting}
use Rattle.fz_parser.proofs.parser.read.Goals as goal

pub loop-place-init : goal.loop-place-init
loop-place-init c =
    let s = starting c.requires c.args.tokens.now c.in_ok-stack.stack.items (state_of c.new-reader.result) c.in_ok-stack.ensures c.new-reader.ensures.state in
    record { kept = c.new-reader.ensures.kept; sound = s.1; at = s.0 }

pub settle-requires-clause-class : goal.settle-requires-clause-class
settle-requires-clause-class c = class_below c.index-tokens-place.result c.class_of-class.result c.class_of-class.ensures

pub settle-requires-clause-sound : goal.settle-requires-clause-sound
settle-requires-clause-sound c = (c.args.goal, c.loop-place.invariant.sound)

pub settle-requires-2-clause-sound : goal.settle-requires-2-clause-sound
settle-requires-2-clause-sound c = (c.args.goal, c.loop-place.invariant.sound)

pub returns-in-Empty-clause-fault : goal.returns-in-Empty-clause-fault
returns-in-Empty-clause-fault c =
    let l : c.loop-place.place < length c.args.tokens.now = omega arith in
    empty_before c.requires c.args.tokens.now c.loop-place.place c.index-tokens-place.result _ (reverse c.settle.new.stack.items) (state_of c.settle.new.reader) l c.index-tokens-place.is c.in-Empty.is
    (c.in_ok-settle.ensures.outcome c.args.goal _ _ (class_at c.args.tokens.now c.loop-place.place _ c.index-tokens-place.result l c.index-tokens-place.is c.class_of-class.ensures) c.loop-place.invariant.sound c.loop-place.invariant.at)

pub returns-in-DeadEnd-clause-fault : goal.returns-in-DeadEnd-clause-fault
returns-in-DeadEnd-clause-fault c =
    let l : c.loop-place.place < length c.args.tokens.now = omega arith in
    dead_end_before c.requires c.args.tokens.now c.loop-place.place c.index-tokens-place.result _ (reverse c.settle.new.stack.items) (state_of c.settle.new.reader) l c.index-tokens-place.is c.in-DeadEnd.is
    (c.in_ok-settle.ensures.outcome c.args.goal _ _ (class_at c.args.tokens.now c.loop-place.place _ c.index-tokens-place.result l c.index-tokens-place.is c.class_of-class.ensures) c.loop-place.invariant.sound c.loop-place.invariant.at)

pub returns-then-not-may_stand-clause-fault : goal.returns-then-not-may_stand-clause-fault
returns-then-not-may_stand-clause-fault c =
    let l : c.loop-place.place < length c.args.tokens.now = omega arith in
    wanted_before c.requires c.args.tokens.now c.loop-place.place c.index-tokens-place.result c.in-Wants.terminal c.class_of-class.result c.may_stand.result _ (reverse c.settle.new.stack.items) (state_of c.settle.new.reader) l
    c.index-tokens-place.is c.class_of-class.ensures c.may_stand.ensures c.if-not-may_stand.true c.in-Wants.is
    (c.in_ok-settle.ensures.outcome c.args.goal _ _ (class_at c.args.tokens.now c.loop-place.place _ c.index-tokens-place.result l c.index-tokens-place.is c.class_of-class.ensures) c.loop-place.invariant.sound c.loop-place.invariant.at)

pub take-requires-clause-fits : goal.take-requires-clause-fits
take-requires-clause-fits c = wanted_fits c.index-tokens-place.result c.in-Wants.terminal c.class_of-class.result c.may_stand.result c.class_of-class.ensures c.may_stand.ensures c.if-not-may_stand.false

pub loop-place-preserved : goal.loop-place-preserved
loop-place-preserved c =
    let l : c.loop-place.place < length c.args.tokens.now = omega arith in record {
      kept = c.in_ok-take-in-Wants.ensures.kept;
      sound = wanted_sound c.index-tokens-place.result c.in-Wants.terminal _ (reverse c.settle.new.stack.items) (state_of c.settle.new.reader) (state_of c.take.new.reader) c.in-Wants.is c.in_ok-take-in-Wants.ensures.state (c.in_ok-settle.ensures.left c.args.goal c.loop-place.invariant.sound);
      at = wanted_on c.args.tokens.now c.loop-place.place c.index-tokens-place.result c.in-Wants.terminal _ (reverse c.settle.new.stack.items) (state_of c.settle.new.reader) (state_of c.take.new.reader) l c.index-tokens-place.is
          (wanted_fits c.index-tokens-place.result c.in-Wants.terminal c.class_of-class.result c.may_stand.result c.class_of-class.ensures c.may_stand.ensures c.if-not-may_stand.false) c.in-Wants.is c.in_ok-take-in-Wants.ensures.state
          (c.in_ok-settle.ensures.outcome c.args.goal _ _ (class_at c.args.tokens.now c.loop-place.place _ c.index-tokens-place.result l c.index-tokens-place.is c.class_of-class.ensures) c.loop-place.invariant.sound c.loop-place.invariant.at);
    }

pub returns-in-Empty-2-clause-read : goal.returns-in-Empty-2-clause-read
returns-in-Empty-2-clause-read c =
    let n : c.loop-place.place ≡ length c.args.tokens.now = omega arith in
    empty_end c.requires c.args.tokens.now c.loop-place.place _ (reverse c.settle-2.new.stack.items) c.settle-2.new.reader n c.in-Empty-2.is c.in_ok-settle-2.ensures.kept
    (c.in_ok-settle-2.ensures.outcome c.args.goal _ _ (class_end c.args.tokens.now c.loop-place.place (omega arith)) c.loop-place.invariant.sound c.loop-place.invariant.at)

pub returns-in-DeadEnd-2-clause-fault : goal.returns-in-DeadEnd-2-clause-fault
returns-in-DeadEnd-2-clause-fault c =
    let n : c.loop-place.place ≡ length c.args.tokens.now = omega arith in
    dead_end_last c.requires c.args.tokens.now c.loop-place.place _ (reverse c.settle-2.new.stack.items) (state_of c.settle-2.new.reader) n c.in-DeadEnd-2.is
    (c.in_ok-settle-2.ensures.outcome c.args.goal _ _ (class_end c.args.tokens.now c.loop-place.place (omega arith)) c.loop-place.invariant.sound c.loop-place.invariant.at)

pub returns-clause-fault : goal.returns-clause-fault
returns-clause-fault c =
    let n : c.loop-place.place ≡ length c.args.tokens.now = omega arith in
    wants_end c.requires c.args.tokens.now c.loop-place.place c.in-Wants-2.field-0 _ (reverse c.settle-2.new.stack.items) (state_of c.settle-2.new.reader) n c.in-Wants-2.is
    (c.in_ok-settle-2.ensures.outcome c.args.goal _ _ (class_end c.args.tokens.now c.loop-place.place (omega arith)) c.loop-place.invariant.sound c.loop-place.invariant.at)
