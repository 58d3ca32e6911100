use Rattle.std.proofs.Common.{◌≡◌, ℕ, List, ◌++◌, take}
use Rattle.outside_links.specs.Links.{Connection, shown}
use Rattle.session_core.specs.OwnerDesk.Passes.{Pass}
use Rattle.session_core.specs.OwnerHouse.House.{house_of}
use Rattle.session_core.specs.Code.{IsAnalyst, ArePasses}
use Rattle.session_serve.specs.Code.{GoesOnWith}
use Rattle.session_serve.proofs.serve.take_piece.Given as goal

-- the bytes so far were taken, whatever was given before them
abbrev pub invariant-loop-byte : goal.invariant-loop-byte
invariant-loop-byte g l = record {
  here : l.passes.locks ≡ l.server.desks.now;
  kept : l.passes ≡ record l.fn.passes { knows = l.passes.knows };
  passes : ArePasses (house_of l.server.house.now) l.passes.knows;
  known : IsAnalyst (house_of l.server.house.now) l.session.who;
  apart : g.L.Link.left l.link ≡ g.L.Link.left l.fn.link;
  goes : (start : List Pass) (begin : Connection) (given : List ℕ)
      → GoesOnWith (house_of l.server.house.now) (g.S.Streams.given l.server.streams.now) start begin given l.fn.session
      (shown (g.L.Link.left l.fn.link) (g.L.Link.written l.fn.link) (g.L.Link.faults l.fn.link)) l.fn.passes.knows
      → GoesOnWith (house_of l.server.house.now) (g.S.Streams.given l.server.streams.now) start begin (given ++ take l.byte-index l.piece) l.session
      (shown (g.L.Link.left l.link) (g.L.Link.written l.link) (g.L.Link.faults l.link)) l.passes.knows;
}
