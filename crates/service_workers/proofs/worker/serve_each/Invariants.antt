use Rattle.std.proofs.Common.{◌≡◌, ℕ, List}
use Rattle.owner_house.specs.House.{house_of}
use Rattle.held_sessions.specs.SessionCore.Code.{ArePasses}
use Rattle.service_workers.specs.Services.{door_of}
use Rattle.service_workers.proofs.Attending.{IsAttending}
use Rattle.service_workers.proofs.worker.serve_each.Given as goal

abbrev pub invariant-loop-number : goal.invariant-loop-number
invariant-loop-number g l = record {
  here : l.passes.locks ≡ l.server.desks.now;
  kept : l.passes ≡ record l.fn.passes { knows = l.passes.knows };
  passes : ArePasses (house_of l.server.house.now) l.passes.knows;
  so_far : IsAttending (house_of l.server.house.now) (g.S.Streams.given l.server.streams.now) l.number l.any
      (door_of (g.O.Doors.coming l.fn.door) (g.O.Doors.served l.fn.door) (g.O.Doors.faults l.fn.door))
      (door_of (g.O.Doors.coming l.door) (g.O.Doors.served l.door) (g.O.Doors.faults l.door)) l.fn.passes.knows l.passes.knows;
  there : (addr : List ℕ) (port : ℕ) → g.O.Doors.listens l.fn.door addr port → g.O.Doors.listens l.door addr port;
}
