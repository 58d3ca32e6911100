use Rattle.std.proofs.Common.{◌≡◌, ◌≤◌, ◌-◌, ℕ, List, length}
use Rattle.outside_links.specs.Links.{Connection, HasGiven, shown}
use Rattle.session_core.specs.OwnerDesk.Passes.{Pass}
use Rattle.session_core.specs.OwnerHouse.House.{house_of}
use Rattle.session_core.specs.Code.{IsAnalyst, ArePasses}
use Rattle.session_serve.specs.Session.{session_limit}
use Rattle.session_serve.specs.Code.{GoesOnWith}
use Rattle.session_serve.proofs.serve.serve.Given as goal

abbrev pub invariant-loop-n : goal.invariant-loop-n
invariant-loop-n g l = record {
  given : List ℕ;
  here : l.passes.locks ≡ l.server.desks.now;
  kept : l.passes ≡ record l.fn.passes { knows = l.passes.knows };
  passes : ArePasses (house_of l.server.house.now) l.passes.knows;
  known : IsAnalyst (house_of l.server.house.now) l.session.who;
  count : length given ≡ l.taken;
  within : l.taken ≤ session_limit;
  gave : HasGiven (g.L.Link.left l.fn.link) given (g.L.Link.left l.link);
  goes : GoesOnWith (house_of l.server.house.now) (g.S.Streams.given l.server.streams.now) l.fn.passes.knows
      (shown (g.L.Link.left l.fn.link) (g.L.Link.written l.fn.link) (g.L.Link.faults l.fn.link)) given l.session
      (shown (g.L.Link.left l.link) (g.L.Link.written l.link) (g.L.Link.faults l.link)) l.passes.knows;
}

abbrev pub decreases-loop-n : goal.decreases-loop-n
decreases-loop-n g l = session_limit - l.taken
