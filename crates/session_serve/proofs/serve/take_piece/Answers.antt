use Rattle.std.proofs.Common.{◌≡◌, ◌<◌, ◌≤◌, ◌∙◌, ℕ, List, [], ◌++◌, length, take, true, false, Ok, refl, sym, ap, subst, arith, append-nil}
use Rattle.std.proofs.lemmas.List.{take_all}
use Rattle.outside_links.specs.Links.{Connection, shown}
use Rattle.session_core.specs.OwnerHouse.House.{house_of}
use Rattle.session_serve.specs.Code.{GoesOnWith}
use Rattle.session_serve.proofs.Steps.{bundle_goes, still_here, piece_parted, piece_broken, piece_goes}
use Rattle.session_serve.proofs.serve.take_piece.Goals as goal

pub loop-byte-init : goal.loop-byte-init
loop-byte-init g c = record {
  here = c.requires.here;
  kept = refl;
  passes = c.requires.passes;
  known = c.requires.known;
  apart = refl;
  goes = λ start begin given goes.
      subst (λ (bs : List ℕ). GoesOnWith (house_of c.args.server.now.house.now) (g.S.Streams.given c.args.server.now.streams.now) start begin bs c.args.session.now
      (shown (g.L.Link.left c.args.link.now) (g.L.Link.written c.args.link.now) (g.L.Link.faults c.args.link.now)) c.args.passes.now.knows) (sym (append-nil given)) goes;
}

pub returns-in_err-take_byte-clause-leads : goal.returns-in_err-take_byte-clause-leads
returns-in_err-take_byte-clause-leads g c = λ start begin given goes.
    let within : c.loop-byte.byte-index < length c.args.piece.now = omega (arith, c.loop-byte-test.true, c.loop-byte.auto.byte-index-end) in
    let now : Connection = shown (g.L.Link.left c.take_byte.new.link) (g.L.Link.written c.take_byte.new.link) (g.L.Link.faults c.take_byte.new.link) in
    piece_broken (house_of c.args.server.now.house.now) (g.S.Streams.given c.args.server.now.streams.now) start begin given c.args.piece.now c.loop-byte.byte-index _ c.take_byte.result
    c.from_residual.result c.in_err-take_byte.field-0.0 c.take_byte.new.session now c.take_byte.new.passes.knows within refl c.in_err-take_byte.was c.from_residual.ensures.0
    (c.take_byte.ensures.leads start begin (given ++ take c.loop-byte.byte-index c.args.piece.now) (c.loop-byte.invariant.goes start begin given goes))

pub returns-then-branch-clause-leads : goal.returns-then-branch-clause-leads
returns-then-branch-clause-leads g c = λ start begin given goes.
    let within : c.loop-byte.byte-index < length c.args.piece.now = omega (arith, c.loop-byte-test.true, c.loop-byte.auto.byte-index-end) in
    let now : Connection = shown (g.L.Link.left c.take_byte.new.link) (g.L.Link.written c.take_byte.new.link) (g.L.Link.faults c.take_byte.new.link) in
    piece_parted (house_of c.args.server.now.house.now) (g.S.Streams.given c.args.server.now.streams.now) start begin given c.args.piece.now c.loop-byte.byte-index _ c.take_byte.result
    c.take_byte.new.session now c.take_byte.new.passes.knows within refl (c.in_ok-take_byte.was ∙ ap Ok c.if-branch.true)
    (c.take_byte.ensures.leads start begin (given ++ take c.loop-byte.byte-index c.args.piece.now) (c.loop-byte.invariant.goes start begin given goes))

pub loop-byte-preserved : goal.loop-byte-preserved
loop-byte-preserved g c = record {
  here = still_here c.args.server.now.desks.now c.loop-byte.passes c.take_byte.new.passes c.loop-byte.invariant.here c.take_byte.ensures.kept;
  kept = bundle_goes c.args.passes.now c.loop-byte.passes c.take_byte.new.passes c.loop-byte.invariant.kept c.take_byte.ensures.kept;
  passes = c.take_byte.ensures.passes;
  known = c.take_byte.ensures.known;
  apart = c.take_byte.ensures.apart ∙ c.loop-byte.invariant.apart;
  goes = λ start begin given goes.
      let within : c.loop-byte.byte-index < length c.args.piece.now = omega (arith, c.loop-byte-test.true, c.loop-byte.auto.byte-index-end) in
      let now : Connection = shown (g.L.Link.left c.take_byte.new.link) (g.L.Link.written c.take_byte.new.link) (g.L.Link.faults c.take_byte.new.link) in
      piece_goes (house_of c.args.server.now.house.now) (g.S.Streams.given c.args.server.now.streams.now) start begin given c.args.piece.now c.loop-byte.byte-index _ c.take_byte.result
      c.take_byte.new.session now c.take_byte.new.passes.knows within refl (c.in_ok-take_byte.was ∙ ap Ok c.if-branch.false)
      (c.take_byte.ensures.leads start begin (given ++ take c.loop-byte.byte-index c.args.piece.now) (c.loop-byte.invariant.goes start begin given goes));
}

pub returns-clause-leads : goal.returns-clause-leads
returns-clause-leads g c = λ start begin given goes.
    let all : take c.loop-byte.byte-index c.args.piece.now ≡ c.args.piece.now = take_all c.loop-byte.byte-index c.args.piece.now (omega (arith, c.loop-byte-test.false, c.loop-byte.auto.byte-index-end)) in
    subst (λ (bs : List ℕ). GoesOnWith (house_of c.args.server.now.house.now) (g.S.Streams.given c.args.server.now.streams.now) start begin bs c.loop-byte.session
    (shown (g.L.Link.left c.loop-byte.link) (g.L.Link.written c.loop-byte.link) (g.L.Link.faults c.loop-byte.link)) c.loop-byte.passes.knows) (ap (λ (bs : List ℕ). given ++ bs) all)
    (c.loop-byte.invariant.goes start begin given goes)
