use Rattle.std.proofs.Common.{◌∙◌, ap, arith}
use Rattle.fz_parser.specs.Tests.{choice}
use Rattle.fz_parser.proofs.Stacks.{tok_top, sound_top, act_top, act_sound, ready_of, rule_found, non_top, non_sound, non_lead, non_refused, end_top, end_sound}
use Rattle.fz_parser.proofs.parser.settle.Goals as goal

pub returns-in-Take-clause-left : goal.returns-in-Take-clause-left
returns-in-Take-clause-left c = λ g s. sound_top _ c.pop.new.self.items c.in-Some.item _ _ c.in-Some.ensures.items c.in-Take.is (c.loop-item.invariant.sound g s)

pub returns-in-Take-clause-outcome : goal.returns-in-Take-clause-outcome
returns-in-Take-clause-outcome c = λ g read rest e s a. tok_top read rest _ c.pop.new.self.items c.in-Some.item _ _ c.in-Some.ensures.items c.in-Take.is (c.loop-item.invariant.at g read rest e s a)

pub make-requires-clause-ready : goal.make-requires-clause-ready
make-requires-clause-ready c =
    ready_of c.in-Make.action _ _ (sound_top c.loop-item.stack.items c.pop.new.self.items c.in-Some.item _ _ c.in-Some.ensures.items c.in-Make.is (c.loop-item.invariant.sound c.requires.sound.0 c.requires.sound.1))

pub loop-item-preserved-in-Continue-1 : goal.loop-item-preserved-in-Continue-1
loop-item-preserved-in-Continue-1 c = record {
  kept = c.in_ok-make-in-Make.ensures.kept;
  sound = λ g s. act_sound c.loop-item.stack.items c.pop.new.self.items c.in-Some.item c.in-Make.action _ _ c.in-Some.ensures.items c.in-Make.is c.in_ok-make-in-Make.ensures.state (c.loop-item.invariant.sound g s);
  at = λ g read rest e s a. act_top read rest c.loop-item.stack.items c.pop.new.self.items c.in-Some.item c.in-Make.action _ _ c.in-Some.ensures.items c.in-Make.is c.in_ok-make-in-Make.ensures.state
      (c.loop-item.invariant.at g read rest e s a);
}

pub returns-then-choice-eq0-clause-outcome : goal.returns-then-choice-eq0-clause-outcome
returns-then-choice-eq0-clause-outcome c = λ g read rest e s a.
    non_refused read rest c.loop-item.stack.items c.pop.new.self.items c.in-Some.item c.in-Read.phrase c.args.class c.choice_at-choice.result _ (c.loop-item.invariant.sound g s)
    c.in-Some.ensures.items c.in-Read.is e c.choice_at-choice.ensures c.if-choice-eq0.true (c.loop-item.invariant.at g read rest e s a)

pub push_body-requires : goal.push_body-requires
push_body-requires c = (rule_found c.in-Read.phrase c.args.class c.choice_at-choice.result c.requires.class c.choice_at-choice.ensures (omega arith)).0

pub loop-item-smaller : goal.loop-item-smaller
loop-item-smaller c =
    let r = rule_found c.in-Read.phrase c.args.class c.choice_at-choice.result c.requires.class c.choice_at-choice.ensures (omega arith) in
    non_lead c.loop-item.stack.items c.pop.new.self.items c.push_body.new.stack.items c.in-Some.item c.in-Read.phrase _ c.in-Some.ensures.items c.in-Read.is c.in_ok-push_body-in-Read.ensures r.0 r.1

pub loop-item-preserved : goal.loop-item-preserved
loop-item-preserved c =
    let r = rule_found c.in-Read.phrase c.args.class c.choice_at-choice.result c.requires.class c.choice_at-choice.ensures (omega arith) in
    record {
      kept = c.loop-item.invariant.kept;
      sound = λ g s. non_sound c.loop-item.stack.items c.pop.new.self.items c.push_body.new.stack.items c.in-Some.item c.in-Read.phrase _ _ c.in-Some.ensures.items c.in-Read.is c.in_ok-push_body-in-Read.ensures r.0 r.1 (c.loop-item.invariant.sound g s);
      at = λ g read rest e s a. non_top read rest c.loop-item.stack.items c.pop.new.self.items c.push_body.new.stack.items c.in-Some.item c.in-Read.phrase _ _ (c.loop-item.invariant.sound g s)
          c.in-Some.ensures.items c.in-Read.is c.in_ok-push_body-in-Read.ensures r.0 r.1 (ap (choice _) e ∙ r.2) (c.loop-item.invariant.at g read rest e s a);
    }

pub returns-clause-left : goal.returns-clause-left
returns-clause-left c = λ g s. end_sound c.loop-item.stack.items _ (omega (arith, c.in_default.ensures.cases)) (c.loop-item.invariant.sound g s)

pub returns-clause-outcome : goal.returns-clause-outcome
returns-clause-outcome c = λ g read rest e s a. end_top read rest c.loop-item.stack.items _ (omega (arith, c.in_default.ensures.cases)) (c.loop-item.invariant.at g read rest e s a)
