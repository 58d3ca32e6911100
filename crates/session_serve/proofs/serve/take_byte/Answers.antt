use Rattle.std.proofs.Common.{◌≡◌, ℕ, List, [], ◌∷◌, ◌++◌, sym, subst, arith}
use Rattle.outside_links.specs.Links.{Connection, shown}
use Rattle.wire_lines.specs.Lines.{lf, without_cr}
use Rattle.session_core.specs.OwnerHouse.House.{house_of}
use Rattle.session_serve.specs.Code.{Keeps, Leads}
use Rattle.session_serve.proofs.Whole.{line_ended}
use Rattle.session_serve.proofs.Steps.{leads_line}
use Rattle.session_serve.proofs.serve.take_byte.Goals as goal

pub returns-then-byte-eq10-clause-leads : goal.returns-then-byte-eq10-clause-leads
returns-then-byte-eq10-clause-leads g c = λ start begin given goes.
    let house = house_of c.args.server.now.house.now in
    let draws = g.S.Streams.given c.args.server.now.streams.now in
    let now : Connection = shown (g.L.Link.left c.args.link.now) (g.L.Link.written c.args.link.now) (g.L.Link.faults c.args.link.now) in
    let after : Connection = shown (g.L.Link.left c.reply.new.link) (g.L.Link.written c.reply.new.link) (g.L.Link.faults c.reply.new.link) in
    let is : c.args.byte ≡ lf = omega (arith, c.if-byte-eq10.true) in
    let kept = subst (λ (b : ℕ). Keeps c.push.new.self (goes.raw ++ b ∷ [])) is (c.push.ensures goes.raw goes.keeps) in
    let replied = c.reply.ensures.replied (goes.raw ++ lf ∷ []) (without_cr goes.raw) kept (line_ended goes.raw goes.unended) in
    subst (λ (b : ℕ). Leads house draws start begin given (b ∷ []) c.reply.result c.reply.new.session after c.reply.new.passes.knows) (sym is)
    (leads_line house draws start begin given c.args.session.now c.reply.new.session now after c.args.passes.now.knows c.reply.new.passes.knows c.reply.result goes replied c.reply.ensures.cleared)
