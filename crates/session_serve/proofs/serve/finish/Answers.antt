use Rattle.std.proofs.Common.{◌≡◌, ◌<◌, ℕ, List, length, true, false, ◌∙◌, ap, subst}
use Rattle.std.specs.Prelude.{Result, Ok, Err, Bool}
use Rattle.fz_outside.specs.declared.Failed.{Failed}
use Rattle.outside_links.specs.Links.{Connection, shown}
use Rattle.wire_lines.specs.Lines.{without_cr}
use Rattle.session_core.specs.OwnerHouse.House.{house_of}
use Rattle.session_serve.specs.Code.{IsLineAnswered}
use Rattle.session_serve.proofs.Whole.{line_at_end}
use Rattle.session_serve.proofs.Ends.{some_left, ends_last, ends_bye, ends_unsent}
use Rattle.session_serve.proofs.serve.finish.Goals as goal

pub returns-in-Ok-false-clause-session : goal.returns-in-Ok-false-clause-session
returns-in-Ok-false-clause-session g c = λ start begin given goes gave at_end within.
    let house = house_of c.args.server.now.house.now in
    let draws = g.S.Streams.given c.args.server.now.streams.now in
    let now : Connection = shown (g.L.Link.left c.args.link.now) (g.L.Link.written c.args.link.now) (g.L.Link.faults c.args.link.now) in
    let after : Connection = shown (g.L.Link.left c.reply.new.link) (g.L.Link.written c.reply.new.link) (g.L.Link.faults c.reply.new.link) in
    let some : 0 < length goes.raw = some_left c.is_empty.result goes.raw c.if-is_empty.false (c.is_empty.ensures goes.raw goes.keeps) in
    let replied = c.reply.ensures.replied goes.raw (without_cr goes.raw) goes.keeps (line_at_end goes.raw goes.unended some) in
    ends_last house draws start begin given c.args.session.now c.reply.new.session now after c.args.passes.now.knows c.reply.new.passes.knows goes some gave c.reply.ensures.apart at_end within
    (subst (λ (r : Result Bool Failed). IsLineAnswered house draws r (without_cr goes.raw) c.args.session.now.who c.reply.new.session.who now after c.args.passes.now.knows c.reply.new.passes.knows) (c.in-Ok-false.is ∙ ap Ok c.in-Ok-false.field-0-test) replied)

pub returns-in-Ok-true-clause-session : goal.returns-in-Ok-true-clause-session
returns-in-Ok-true-clause-session g c = λ start begin given goes gave at_end within.
    let house = house_of c.args.server.now.house.now in
    let draws = g.S.Streams.given c.args.server.now.streams.now in
    let now : Connection = shown (g.L.Link.left c.args.link.now) (g.L.Link.written c.args.link.now) (g.L.Link.faults c.args.link.now) in
    let after : Connection = shown (g.L.Link.left c.reply.new.link) (g.L.Link.written c.reply.new.link) (g.L.Link.faults c.reply.new.link) in
    let some : 0 < length goes.raw = some_left c.is_empty.result goes.raw c.if-is_empty.false (c.is_empty.ensures goes.raw goes.keeps) in
    let replied = c.reply.ensures.replied goes.raw (without_cr goes.raw) goes.keeps (line_at_end goes.raw goes.unended some) in
    ends_bye house draws start begin given c.args.session.now c.reply.new.session now after c.args.passes.now.knows c.reply.new.passes.knows goes some gave c.reply.ensures.apart at_end within
    (subst (λ (r : Result Bool Failed). IsLineAnswered house draws r (without_cr goes.raw) c.args.session.now.who c.reply.new.session.who now after c.args.passes.now.knows c.reply.new.passes.knows) (c.in-Ok-true.is ∙ ap Ok c.in-Ok-true.field-0-test) replied)

pub returns-in-Err-clause-session : goal.returns-in-Err-clause-session
returns-in-Err-clause-session g c = λ start begin given goes gave at_end within.
    let house = house_of c.args.server.now.house.now in
    let draws = g.S.Streams.given c.args.server.now.streams.now in
    let now : Connection = shown (g.L.Link.left c.args.link.now) (g.L.Link.written c.args.link.now) (g.L.Link.faults c.args.link.now) in
    let after : Connection = shown (g.L.Link.left c.reply.new.link) (g.L.Link.written c.reply.new.link) (g.L.Link.faults c.reply.new.link) in
    let some : 0 < length goes.raw = some_left c.is_empty.result goes.raw c.if-is_empty.false (c.is_empty.ensures goes.raw goes.keeps) in
    let replied = c.reply.ensures.replied goes.raw (without_cr goes.raw) goes.keeps (line_at_end goes.raw goes.unended some) in
    ends_unsent house draws start begin given c.args.session.now c.reply.new.session now after c.args.passes.now.knows c.reply.new.passes.knows goes some gave c.reply.ensures.apart at_end within _
    (subst (λ (r : Result Bool Failed). IsLineAnswered house draws r (without_cr goes.raw) c.args.session.now.who c.reply.new.session.who now after c.args.passes.now.knows c.reply.new.passes.knows) c.in-Err.is replied)
